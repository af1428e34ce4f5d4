-- The words that items are typed as lead to the items.
use Rattle.std.proofs.Common.{◌≡◌, ℕ, ◌+◌, ◌*◌, ◌≤◌, List, [], ◌∷◌, ◌++◌, refl, ap, sym, subst, arith, append_assoc, le-ltb, lt-ltb}
use Rattle.std.proofs.Common.{append-nil}
use Rattle.kernel_words.proofs.Cases.{by_less}
use Rattle.kernel_definitions.specs.TypedItems.{TypedItem, Number, Called, IfThen, IfElse, BeginUntil, BeginWhile, TypedItems, NoItem, Item}
use Rattle.kernel_definitions.specs.TypedItems.{added, item_size, items_size, words_of_item, words_of}
use Rattle.kernel_definitions.specs.TypedItems.{TypedWord, IsElse, IsThen, IsUntil, IsWhile, IsRepeat}
use Rattle.kernel_definitions.specs.OpenDefinition.{OpenStructure, InIf, InElse, InBegin, InWhile, OpenItems, nothing_read, inner, entries}
use Rattle.kernel_definitions.specs.Compiling.{deeper, item_nesting, nesting, ReadsTo, ItemsAreRead}
use Rattle.kernel_definitions.proofs.Standing.{size_added}

-- items behind others
abbrev joined : TypedItems → TypedItems → TypedItems
joined NoItem more = more
joined (Item item rest) more = Item item (joined rest more)

joined_none : (items : TypedItems) → joined items NoItem ≡ items
joined_none NoItem = refl
joined_none (Item item rest) = ap (λ r. Item item r) (joined_none rest)

joined_added : (done : TypedItems) (item : TypedItem) (rest : TypedItems) → joined (added done item) rest ≡ joined done (Item item rest)
joined_added NoItem item rest = refl
joined_added (Item first more) item rest = ap (λ r. Item first r) (joined_added more item rest)

deeper_both : (m n : ℕ) → (m ≤ deeper m n) × (n ≤ deeper m n)
deeper_both m n = by_less m n (λ less. rw (lt-ltb m n less) (omega (arith, less), omega arith))
    (λ all. rw (le-ltb m n all) (omega arith, all))

module _ (most end a : ℕ) (last : OpenItems) where
  abbrev Leads : List TypedWord → List OpenStructure → TypedItems → Type 0
  Leads words around done = ReadsTo most end a words (record { around = around; done = done }) last

  mutual
    item_leads : (item : TypedItem) (around : List OpenStructure) (done : TypedItems) (more : List TypedWord) →
        entries around + 2 * item_nesting item ≤ most → inner around a + items_size done + item_size item ≤ end →
        Leads more around (added done item) → Leads (words_of_item item ++ more) around done
    item_leads (Number x) around done more f g k = (
      record { around = around; done = added done (Number x) },
      refl,
      omega (arith, f),
      (let e = size_added done (Number x) in omega (arith, g, e)),
      k,
    )
    item_leads (Called x) around done more f g k = (
      record { around = around; done = added done (Called x) },
      refl,
      omega (arith, f),
      (let e = size_added done (Called x) in omega (arith, g, e)),
      k,
    )
    item_leads (IfThen first) around done more f g k = (
      record { around = InIf done ∷ around; done = NoItem },
      refl,
      omega (arith, f),
      omega (arith, g),
      subst (λ ws. Leads ws (InIf done ∷ around) NoItem) (sym (append_assoc (words_of first) (IsThen ∷ []) more))
          (items_lead first (InIf done ∷ around) NoItem (IsThen ∷ more) (omega (arith, f)) (omega (arith, g)) (
            record { around = around; done = added done (IfThen first) },
            refl,
            omega (arith, f),
            (let e = size_added done (IfThen first) in omega (arith, g, e)),
            k,
          )),
    )
    item_leads (IfElse first second) around done more f g k =
        let both = deeper_both (nesting first) (nesting second) in
        let m = both.0 in
        let n = both.1 in (
          record { around = InIf done ∷ around; done = NoItem },
          refl,
          omega (arith, f),
          omega (arith, g),
          subst (λ ws. Leads ws (InIf done ∷ around) NoItem)
              (sym (append_assoc (words_of first) (IsElse ∷ (words_of second ++ IsThen ∷ [])) more))
              (items_lead first (InIf done ∷ around) NoItem (IsElse ∷ ((words_of second ++ IsThen ∷ []) ++ more)) (omega (arith, f, m))
              (omega (arith, g)) (
                record { around = InElse done first ∷ around; done = NoItem },
                refl,
                omega (arith, f),
                omega (arith, g),
                subst (λ ws. Leads ws (InElse done first ∷ around) NoItem) (sym (append_assoc (words_of second) (IsThen ∷ []) more))
                    (items_lead second (InElse done first ∷ around) NoItem (IsThen ∷ more) (omega (arith, f, n)) (omega (arith, g)) (
                      record { around = around; done = added done (IfElse first second) },
                      refl,
                      omega (arith, f),
                      (let e = size_added done (IfElse first second) in omega (arith, g, e)),
                      k,
                    )),
              )),
        )
    item_leads (BeginUntil body) around done more f g k = (
      record { around = InBegin done ∷ around; done = NoItem },
      refl,
      omega (arith, f),
      omega (arith, g),
      subst (λ ws. Leads ws (InBegin done ∷ around) NoItem) (sym (append_assoc (words_of body) (IsUntil ∷ []) more))
          (items_lead body (InBegin done ∷ around) NoItem (IsUntil ∷ more) (omega (arith, f)) (omega (arith, g)) (
            record { around = around; done = added done (BeginUntil body) },
            refl,
            omega (arith, f),
            (let e = size_added done (BeginUntil body) in omega (arith, g, e)),
            k,
          )),
    )
    item_leads (BeginWhile test body) around done more f g k =
        let both = deeper_both (nesting test) (nesting body) in
        let m = both.0 in
        let n = both.1 in (
          record { around = InBegin done ∷ around; done = NoItem },
          refl,
          omega (arith, f),
          omega (arith, g),
          subst (λ ws. Leads ws (InBegin done ∷ around) NoItem)
              (sym (append_assoc (words_of test) (IsWhile ∷ (words_of body ++ IsRepeat ∷ [])) more))
              (items_lead test (InBegin done ∷ around) NoItem (IsWhile ∷ ((words_of body ++ IsRepeat ∷ []) ++ more)) (omega (arith, f, m))
              (omega (arith, g)) (
                record { around = InWhile done test ∷ around; done = NoItem },
                refl,
                omega (arith, f),
                omega (arith, g),
                subst (λ ws. Leads ws (InWhile done test ∷ around) NoItem) (sym (append_assoc (words_of body) (IsRepeat ∷ []) more))
                    (items_lead body (InWhile done test ∷ around) NoItem (IsRepeat ∷ more) (omega (arith, f, n)) (omega (arith, g)) (
                      record { around = around; done = added done (BeginWhile test body) },
                      refl,
                      omega (arith, f),
                      (let e = size_added done (BeginWhile test body) in omega (arith, g, e)),
                      k,
                    )),
              )),
        )

    items_lead : (items : TypedItems) (around : List OpenStructure) (done : TypedItems) (more : List TypedWord) →
        entries around + 2 * nesting items ≤ most → inner around a + items_size done + items_size items ≤ end →
        Leads more around (joined done items) → Leads (words_of items ++ more) around done
    items_lead NoItem around done more f g k = subst (λ items. Leads more around items) (joined_none done) k
    items_lead (Item item rest) around done more f g k =
        let both = deeper_both (item_nesting item) (nesting rest) in
        let m = both.0 in
        let n = both.1 in
        let e = size_added done item in
        subst (λ ws. Leads ws around done) (sym (append_assoc (words_of_item item) (words_of rest) more))
        (item_leads item around done (words_of rest ++ more) (omega (arith, f, m)) (omega (arith, g))
        (items_lead rest around (added done item) more (omega (arith, f, n)) (omega (arith, g, e))
        (subst (λ items. Leads more around items) (sym (joined_added done item rest)) k)))

pub items_are_read : ItemsAreRead
items_are_read items a = subst (λ ws. ReadsTo (2 * nesting items) (a + items_size items) a ws nothing_read
    (record { around = []; done = items })) (append-nil (words_of items))
    (items_lead (2 * nesting items) (a + items_size items) a (record { around = []; done = items }) items [] NoItem [] (omega arith)
    (omega arith) refl)
