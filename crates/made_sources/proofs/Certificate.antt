-- The certificate of a made program is valid.
use Rattle.std.proofs.Common.{◌≡◌, ℕ, zero, suc, ◌+◌, ◌%◌, ◌<◌, ◌≤◌, Bool, true, false, if◌then◌else◌, List, [], ◌∷◌, ◌++◌, Option, Some, refl, ap, sym, subst, ◌∙◌, arith, append_assoc, inl, inr}
use Rattle.std.specs.Prelude.{ℤ, pos, negsuc, ◌+ℤ◌, nat_eq}
use Rattle.std.specs.List.{All}
use Rattle.std.proofs.lemmas.Int.{ints}
use Rattle.std.proofs.lemmas.Bool.{eq-eqb}
use Rattle.std.proofs.lemmas.Bool.Decides.{nat_tests}
use Rattle.word_table.specs.declared.word.Word.TheVariants as table
use Rattle.forth_program.specs.Tree.{Nodes, Literal, Plain, Call, Empty, Then}
use Rattle.forth_program.specs.Program.{SourceProgram, uses_depth}
use Rattle.depth_certifier.specs.declared.effect.Effect.{Effect}
use Rattle.depth_certifier.specs.Place.{Shape, Place, Unreachable, At, Below}
use Rattle.depth_certifier.specs.Effects.{Known, effect_of, idle, table_effect, next_of, is_jump, keep, shape_after}
use Rattle.forth_program.specs.Heights.{address_height}
use Rattle.depth_certifier.specs.Certificate.{loops, after, Leads, Fits, BodyFits, BodiesFit, Keeps, definition_limits, Cert, known_of, IsValid}
use Rattle.depth_certifier.specs.Rounds.{IsLeast, Judged, RoundsEnd, RoundsFindTheLeast, RefusedHaveNone, ProperToken}
use Rattle.made_sources.specs.MadeProgram.{number_at, operation_word, number_body, operation_effect, number_effect, calls_and_print, bodies_to, effects_to, main_effect, made_program, made_certificate}
use Rattle.made_sources.specs.Laws.{MadeProgramsAreCertified}
use Rattle.made_sources.proofs.Lists.{among_all}

-- so many cells more than at the entry
abbrev cells_more : ℕ → Place
cells_more n = At (record { low = pos n; high = pos n; shape = [] })

-- an effect with one end leads from so many cells to so many
leads : (body x : Effect) (change : Shape → Option Shape) (n m : ℕ) (by : ℤ) → change [] ≡ Some [] → x.need ≤ body.need + n → n + x.peak ≤ body.peak → x.back ≤ body.back → x.exit ≡ Some (by, by) → (pos n +ℤ by) ≡ pos m → m ≤ 33 →
    Leads body x change (cells_more n) (cells_more m)
leads body x change n m by keeps need peak back exit sum small = record {
  shape = [];
  changes = keeps;
  allows = record { need = omega (arith, ints, need); peak = omega (arith, ints, peak); back = omega (arith, back); room = omega arith };
  place = sym (ap (λ e. after e (record { low = pos n; high = pos n; shape = [] }) []) exit ∙ ap (λ z. At (record { low = z; high = z; shape = [] })) sum);
  limits = (omega (arith, ints), omega (arith, ints, small));
}

ends_here : (n : ℕ) → Below (cells_more n) (cells_more n)
ends_here n = record { low = omega (arith, ints); high = omega (arith, ints); same = refl }

-- what holds of the print, and of a call before what it holds of, holds of all calls and the print
calls_by : {N : Type 0} (P : N → Nodes → Type 0) (next : N) (last : ℕ) → P next (Then (Plain table.UDot) Empty) → ((d : ℕ) (rest : Nodes) → d < last → P next rest → P next (Then (Call d) rest)) →
    (count d : ℕ) → d + count ≡ last → P next (calls_and_print count d)
calls_by P next last print call zero d sum = print
calls_by P next last print call (suc count) d sum = call d (calls_and_print count (d + 1)) (omega arith) (calls_by P next last print call count (d + 1) (omega arith))

-- the number of a definition, and its operation
literal_leads : (kind : ℕ) → Leads (operation_effect (operation_word kind)) (table_effect table.Literal) keep (cells_more 0) (cells_more 1)
literal_leads zero = leads _ _ keep 0 1 (pos 1) refl (omega arith) (omega arith) (omega arith) refl refl (omega arith)
literal_leads (suc zero) = leads _ _ keep 0 1 (pos 1) refl (omega arith) (omega arith) (omega arith) refl refl (omega arith)
literal_leads (suc (suc zero)) = leads _ _ keep 0 1 (pos 1) refl (omega arith) (omega arith) (omega arith) refl refl (omega arith)
literal_leads (suc (suc (suc kind))) = leads _ _ keep 0 1 (pos 1) refl (omega arith) (omega arith) (omega arith) refl refl (omega arith)

operation_leads : (kind : ℕ) → Leads (operation_effect (operation_word kind)) (table_effect (operation_word kind)) (shape_after (operation_word kind)) (cells_more 1) (cells_more 0)
operation_leads zero = leads _ _ (shape_after table.Plus) 1 0 (negsuc 0) refl (omega arith) (omega arith) (omega arith) refl refl (omega arith)
operation_leads (suc zero) = leads _ _ (shape_after table.Xor) 1 0 (negsuc 0) refl (omega arith) (omega arith) (omega arith) refl refl (omega arith)
operation_leads (suc (suc zero)) = leads _ _ (shape_after table.Minus) 1 0 (negsuc 0) refl (omega arith) (omega arith) (omega arith) refl refl (omega arith)
operation_leads (suc (suc (suc kind))) = leads _ _ (shape_after table.Star) 1 0 (negsuc 0) refl (omega arith) (omega arith) (omega arith) refl refl (omega arith)

module _ (known : Known) where
  -- a number and its operation
  number_fits : (kind v : ℕ) → BodyFits known [] (operation_effect (operation_word kind)) (Then (Literal v) (Then (Plain (operation_word kind)) Empty)) 0
  number_fits zero v = (cells_more 0, (cells_more 1, literal_leads 0, (cells_more 0, operation_leads 0, ends_here 0)), (refl, (omega (arith, ints), omega (arith, ints))))
  number_fits (suc zero) v = (cells_more 0, (cells_more 1, literal_leads 1, (cells_more 0, operation_leads 1, ends_here 0)), (refl, (omega (arith, ints), omega (arith, ints))))
  number_fits (suc (suc zero)) v = (cells_more 0, (cells_more 1, literal_leads 2, (cells_more 0, operation_leads 2, ends_here 0)), (refl, (omega (arith, ints), omega (arith, ints))))
  number_fits (suc (suc (suc kind))) v = (cells_more 0, (cells_more 1, literal_leads 3, (cells_more 0, operation_leads 3, ends_here 0)), (refl, (omega (arith, ints), omega (arith, ints))))

  -- a call of one of them in MAIN, whatever follows it
  call_fits : (jump : Bool) (kind : ℕ) (x : Effect) → x ≡ operation_effect (operation_word kind) →
      Leads main_effect (record { need = x.need; peak = x.peak; back = x.back + address_height jump; exit = x.exit }) keep (cells_more 1) (cells_more 1)
  call_fits jump kind x same =
      subst (λ x. Leads main_effect (record { need = x.need; peak = x.peak; back = x.back + address_height jump; exit = x.exit }) keep (cells_more 1) (cells_more 1)) (sym same) (by_kind kind (low jump))
    where
      low : (b : Bool) → address_height b ≤ 1
      low true = omega arith
      low false = omega arith

      by_kind : (kind : ℕ) → address_height jump ≤ 1 →
          Leads main_effect
          (record {
            need = (operation_effect (operation_word kind)).need;
            peak = (operation_effect (operation_word kind)).peak;
            back = (operation_effect (operation_word kind)).back + address_height jump;
            exit = (operation_effect (operation_word kind)).exit;
          }) keep (cells_more 1) (cells_more 1)
      by_kind zero h = leads _ _ keep 1 1 (pos 0) refl (omega arith) (omega arith) (omega (arith, h)) refl refl (omega arith)
      by_kind (suc zero) h = leads _ _ keep 1 1 (pos 0) refl (omega arith) (omega arith) (omega (arith, h)) refl refl (omega arith)
      by_kind (suc (suc zero)) h = leads _ _ keep 1 1 (pos 0) refl (omega arith) (omega arith) (omega (arith, h)) refl refl (omega arith)
      by_kind (suc (suc (suc kind))) h = leads _ _ keep 1 1 (pos 0) refl (omega arith) (omega arith) (omega (arith, h)) refl refl (omega arith)

  main_fits : (seed count : ℕ) → ((d : ℕ) → d < count → effect_of known d ≡ number_effect (number_at seed (suc d))) → BodyFits known [] main_effect (Then (Literal 1) (calls_and_print count 0)) 0
  main_fits seed count effects = (
    cells_more 0,
    (
      cells_more 1,
      leads _ _ keep 0 1 (pos 1) refl (omega arith) (omega arith) (omega arith) refl refl (omega arith),
      calls_by (λ next nodes. Fits known [] main_effect next nodes 0 (cells_more 1) Unreachable (cells_more 0)) _ count
          (cells_more 0, leads _ _ (shape_after table.UDot) 1 0 (negsuc 0) refl (omega arith) (omega arith) (omega arith) refl refl (omega arith), ends_here 0)
          (λ d rest inside fit. (cells_more 1, call_fits (is_jump (next_of _ rest)) (number_at seed (suc d) % 4) (effect_of known d) (effects d inside), fit)) count 0 (omega arith),
    ),
    (refl, (omega (arith, ints), omega (arith, ints))),
  )

-- ---- the limits

operation_keeps : (kind : ℕ) → Keeps (record { need = 33; peak = 33; back = 31; top = 33 }) (operation_effect (operation_word kind))
operation_keeps zero = record { need = omega arith; peak = omega arith; back = omega arith; exit = (omega (arith, ints), omega (arith, ints), omega (arith, ints)) }
operation_keeps (suc zero) = record { need = omega arith; peak = omega arith; back = omega arith; exit = (omega (arith, ints), omega (arith, ints), omega (arith, ints)) }
operation_keeps (suc (suc zero)) = record { need = omega arith; peak = omega arith; back = omega arith; exit = (omega (arith, ints), omega (arith, ints), omega (arith, ints)) }
operation_keeps (suc (suc (suc kind))) = record { need = omega arith; peak = omega arith; back = omega arith; exit = (omega (arith, ints), omega (arith, ints), omega (arith, ints)) }

main_keeps : (depth : Bool) → Keeps (record { need = 0; peak = if depth then 32 else 33; back = 31; top = 31 }) main_effect
main_keeps true = record { need = omega arith; peak = omega arith; back = omega arith; exit = (omega (arith, ints), omega (arith, ints), omega (arith, ints)) }
main_keeps false = record { need = omega arith; peak = omega arith; back = omega arith; exit = (omega (arith, ints), omega (arith, ints), omega (arith, ints)) }

other_limits : (p : SourceProgram) (definition : ℕ) → definition < p.main_body → definition_limits p definition ≡ record { need = 33; peak = 33; back = 31; top = 33 }
other_limits p definition below = rw (differ definition p.main_body below) refl
  where
    differ : (a b : ℕ) → a < b → nat_eq a b ≡ false
    differ a b h = grind (arith, nat_tests)

main_limits : (p : SourceProgram) → definition_limits p p.main_body ≡ record { need = 0; peak = if uses_depth p then 32 else 33; back = 31; top = 31 }
main_limits p = rw (eq-eqb p.main_body p.main_body refl) refl

-- ---- all definitions

module _ (seed : ℕ) (p : SourceProgram) (known : Known) where
  bodies_fit : (count : ℕ) (bodies : List Nodes) (effects : List Effect) → count ≤ p.main_body → BodiesFit p known [] bodies effects count 0 →
      BodiesFit p known [] (bodies_to seed count ++ bodies) (effects_to seed count ++ effects) 0 0
  bodies_fit zero bodies effects small rest = rest
  bodies_fit (suc count) bodies effects small rest =
      let v = number_at seed (suc count) in
      subst2 (λ bs es. BodiesFit p known [] bs es 0 0)
      (sym (append_assoc (bodies_to seed count) (number_body v ∷ []) bodies)) (sym (append_assoc (effects_to seed count) (number_effect v ∷ []) effects))
      (bodies_fit count (number_body v ∷ bodies) (number_effect v ∷ effects) (omega arith)
      (number_fits known (v % 4) v, subst (λ limits. Keeps limits (number_effect v)) (sym (other_limits p count (omega arith))) (operation_keeps (v % 4)), rest))
    where
      subst2 : {xs xs' : List Nodes} {ys ys' : List Effect} (P : List Nodes → List Effect → Type 0) → xs ≡ xs' → ys ≡ ys' → P xs ys → P xs' ys'
      subst2 {xs = xs} {ys' = ys'} P e f h = subst (λ xs. P xs ys') e (subst (P xs) f h)

limits_kept : (p : SourceProgram) → Keeps (definition_limits p p.main_body) main_effect
limits_kept p = subst (λ limits. Keeps limits main_effect) (sym (main_limits p)) (main_keeps (uses_depth p))

no_loops : (count definition : ℕ) → loops (calls_and_print count definition) ≡ 0
no_loops zero definition = refl
no_loops (suc count) definition = let none = no_loops count (definition + 1) in omega (arith, none)

pub made_is_valid : (seed count : ℕ) → IsValid (made_program seed count) (made_certificate seed count)
made_is_valid seed count =
    let p = made_program seed count in
    let z = made_certificate seed count in
    record {
      bodies =
          bodies_fit seed p (known_of z) count (Then (Literal 1) (calls_and_print count 0) ∷ []) (main_effect ∷ []) (omega arith) (
            main_fits (known_of z) seed count (λ d inside. among_all (λ d. number_effect (number_at seed (suc d))) idle count d (main_effect ∷ []) inside),
            limits_kept p,
            (let none = no_loops count 0 in omega (arith, none)),
          );
      tokens = λ k token below. absurd (omega (arith, below));
      shared = omega (arith, ints);
      heads = λ k head below. absurd (omega (arith, below));
    }

certified_by : (p : SourceProgram) (z : Cert) → IsValid p z → All ProperToken p.tokens → RoundsFindTheLeast → RefusedHaveNone → Judged p → (certificate : Cert) × IsLeast p certificate
certified_by p z valid proper least none (inl settled) = (settled.0, least p settled.0 proper settled.1)
certified_by p z valid proper least none (inr refused) = absurd (none p refused.0 z refused.1 valid)

pub programs_certified : RoundsEnd → RoundsFindTheLeast → RefusedHaveNone → MadeProgramsAreCertified
programs_certified end least none seed count small =
    (made_is_valid seed count, certified_by (made_program seed count) (made_certificate seed count) (made_is_valid seed count) (λ k token below. absurd (omega (arith, below))) least none (end (made_program seed count)))
