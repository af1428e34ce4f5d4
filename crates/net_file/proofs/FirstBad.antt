-- The net of a text and its first bad line.
use Rattle.std.proofs.Common.{◌≡◌, ◌⊎◌, inl, inr, ℕ, zero, suc, ◌+◌, ◌<◌, List, [], ◌∷◌, length, take, Option, Some, None, refl, sym, ap, ◌∙◌, subst, arith, add-one}
use Rattle.std.proofs.Math.Seq.{take-length}
use Rattle.j1_assembler.specs.Numbers.{◌>>=◌}
use Rattle.j1_assembler.specs.Text.{lines_of}
use Rattle.net_file.specs.declared.nets.Stage.{Stage}
use Rattle.net_file.specs.declared.nets.Stage.TheVariants.{Opening, Listing, Closed}
use Rattle.net_file.specs.Net.{NetPlan, IsNetText}
use Rattle.net_file.specs.FirstBad.{BeginNet, IsFirstBadLine}
use Rattle.net_file.specs.Reading.{NetReading, reading_start, after_line, IsOpen, ToldNet, BadAt, at_end, lines_told, net_told}
use Rattle.net_file.proofs.Options.{after_lines}
use Rattle.net_file.proofs.NetRuns.{closed, net_read, read_net, read_begins, begins_read}

end_tells : (stage : Stage) (net other : NetPlan) (k : ℕ) → at_end k stage net ≡ ToldNet other → Some (let r : NetReading = record { stage = stage; net = net } in r) ≡ Some (closed other)
end_tells Opening net other k e = cc
end_tells Listing net other k e = cc
end_tells Closed net other k e = let same : net ≡ other = cc in ap (λ n. Some (closed n)) same

line_tells : (o : Option NetReading) (lines : List (List ℕ)) (net : NetPlan) (k : ℕ) → elim o [ Some next ↦ lines_told (k + 1) next lines | None ↦ BadAt k ] ≡ ToldNet net →
    ((next : NetReading) → lines_told (k + 1) next lines ≡ ToldNet net → after_lines next lines ≡ Some (closed net)) → (o >>= λ next. after_lines next lines) ≡ Some (closed net)
line_tells None lines net k e h = cc
line_tells (Some next) lines net k e h = h next e

-- where lines tell a net, they were read to its end
pub tells_read : (lines : List (List ℕ)) (reading : NetReading) (net : NetPlan) (k : ℕ) → lines_told k reading lines ≡ ToldNet net → after_lines reading lines ≡ Some (closed net)
tells_read [] reading net k e = end_tells reading.stage reading.net net k e
tells_read (line ∷ lines) reading net k e = line_tells (after_line reading line) lines net k e (λ next. tells_read lines next net (k + 1))

line_read : (o : Option NetReading) (lines : List (List ℕ)) (net : NetPlan) (k : ℕ) → (o >>= λ next. after_lines next lines) ≡ Some (closed net) →
    ((next : NetReading) → after_lines next lines ≡ Some (closed net) → lines_told (k + 1) next lines ≡ ToldNet net) → elim o [ Some next ↦ lines_told (k + 1) next lines | None ↦ BadAt k ] ≡ ToldNet net
line_read None lines net k e h = cc
line_read (Some next) lines net k e h = h next e

pub read_tells : (lines : List (List ℕ)) (reading : NetReading) (net : NetPlan) (k : ℕ) → after_lines reading lines ≡ Some (closed net) → lines_told k reading lines ≡ ToldNet net
read_tells [] reading net k e = let same : reading ≡ closed net = cc in ap (λ r. at_end k r.stage r.net) same
read_tells (line ∷ lines) reading net k e = line_read (after_line reading line) lines net k e (λ next. read_tells lines next net (k + 1))

-- where lines stop: these many are read, and the next is not, or there is none and the turns were not told
record Stops (lines : List (List ℕ)) (reading : NetReading) (k n : ℕ) : Type 0 where
  many : ℕ
  counted : n ≡ k + many
  reached : NetReading
  read : after_lines reading (take many lines) ≡ Some reached
  fault : ((many < length lines) × (after_lines reading (take (suc many) lines) ≡ None)) ⊎ ((many ≡ length lines) × IsOpen reached.stage)

end_stops : (stage : Stage) (net : NetPlan) (k n : ℕ) → at_end k stage net ≡ BadAt n → (n ≡ k + 0) × IsOpen stage
end_stops Opening net k n e = let same : k ≡ n = cc in (omega arith, tt)
end_stops Listing net k n e = let same : k ≡ n = cc in (omega arith, tt)
end_stops Closed net k n e = cc

stops_later : (line : List ℕ) (lines : List (List ℕ)) (reading next : NetReading) (k n : ℕ) → after_line reading line ≡ Some next → Stops lines next (k + 1) n → Stops (line ∷ lines) reading k n
stops_later line lines reading next k n e s =
    record {
      many = suc s.many;
      counted = let c : n ≡ k + 1 + s.many = s.counted in omega arith;
      reached = s.reached;
      read = ap (λ o. o >>= λ r. after_lines r (take s.many lines)) e ∙ s.read;
      fault = elim s.fault as (λ _. ((suc s.many < length (line ∷ lines)) × (after_lines reading (take (suc (suc s.many)) (line ∷ lines)) ≡ None)) ⊎ ((suc s.many ≡ length (line ∷ lines)) × IsOpen s.reached.stage)) [
        | inl p ↦ inl (let lt : s.many < length lines = p.0 in omega arith, ap (λ o. o >>= λ r. after_lines r (take (suc s.many) lines)) e ∙ p.1)
        | inr p ↦ inr (ap suc p.0, p.1)
      ];
    }

line_stops : (o : Option NetReading) (line : List ℕ) (lines : List (List ℕ)) (reading : NetReading) (k n : ℕ) → after_line reading line ≡ o →
    elim o [ Some next ↦ lines_told (k + 1) next lines | None ↦ BadAt k ] ≡ BadAt n →
    ((next : NetReading) → lines_told (k + 1) next lines ≡ BadAt n → Stops lines next (k + 1) n) → Stops (line ∷ lines) reading k n
line_stops None line lines reading k n is e h =
    let same : k ≡ n = cc in
    record { many = 0; counted = omega arith; reached = reading; read = refl; fault = inl (omega arith, ap (λ o. o >>= λ r. after_lines r []) is) }
line_stops (Some next) line lines reading k n is e h = stops_later line lines reading next k n is (h next e)

bad_stops : (lines : List (List ℕ)) (reading : NetReading) (k n : ℕ) → lines_told k reading lines ≡ BadAt n → Stops lines reading k n
bad_stops [] reading k n e =
    let end = end_stops reading.stage reading.net k n e in
    record { many = 0; counted = end.0; reached = reading; read = refl; fault = inr (refl, end.1) }
bad_stops (line ∷ lines) reading k n e = line_stops (after_line reading line) line lines reading k n refl e (λ next. bad_stops lines next (k + 1) n)

end_bad : (stage : Stage) (net : NetPlan) (k : ℕ) → IsOpen stage → at_end k stage net ≡ BadAt k
end_bad Opening net k still = refl
end_bad Listing net k still = refl
end_bad Closed net k still = absurd still

none_bad : (o : Option NetReading) (lines : List (List ℕ)) (k : ℕ) → (o >>= λ r. after_lines r []) ≡ None → elim o [ Some next ↦ lines_told (k + 1) next lines | None ↦ BadAt k ] ≡ BadAt k
none_bad None lines k e = refl
none_bad (Some next) lines k e = cc

later_bad : (o : Option NetReading) (lines : List (List ℕ)) (many k n : ℕ) (reached : NetReading) → (o >>= λ r. after_lines r (take many lines)) ≡ Some reached →
    ((many < length lines) × ((o >>= λ r. after_lines r (take (suc many) lines)) ≡ None)) ⊎ ((many ≡ length lines) × IsOpen reached.stage) → n ≡ k + 1 + many →
    ((next : NetReading) → Stops lines next (k + 1) n → lines_told (k + 1) next lines ≡ BadAt n) → elim o [ Some next ↦ lines_told (k + 1) next lines | None ↦ BadAt k ] ≡ BadAt n
later_bad None lines many k n reached e fault counted h = cc
later_bad (Some next) lines many k n reached e fault counted h = h next (record { many = many; counted = counted; reached = reached; read = e; fault = fault })

abbrev Fault : List (List ℕ) → NetReading → ℕ → NetReading → Type 0
Fault lines reading many reached = ((many < length lines) × (after_lines reading (take (suc many) lines) ≡ None)) ⊎ ((many ≡ length lines) × IsOpen reached.stage)

stops_bad_at : (lines : List (List ℕ)) (reading reached : NetReading) (many k n : ℕ) → n ≡ k + many → after_lines reading (take many lines) ≡ Some reached → Fault lines reading many reached →
    lines_told k reading lines ≡ BadAt n
stops_bad_at [] reading reached many k n counted read (inl p) = absurd (let lt : many < 0 = p.0 in omega arith)
stops_bad_at [] reading reached zero k n counted read (inr p) =
    let same : reading ≡ reached = cc in
    let at : n ≡ k = omega arith in
    end_bad reading.stage reading.net k (subst (λ r. IsOpen r.stage) (sym same) p.1) ∙ ap BadAt (sym at)
stops_bad_at [] reading reached (suc many) k n counted read (inr p) = absurd (let e : suc many ≡ 0 = p.0 in omega arith)
stops_bad_at (line ∷ lines) reading reached zero k n counted read (inl p) =
    let at : n ≡ k = omega arith in
    none_bad (after_line reading line) lines k p.1 ∙ ap BadAt (sym at)
stops_bad_at (line ∷ lines) reading reached zero k n counted read (inr p) = absurd (let e : 0 ≡ suc (length lines) = p.0 in omega arith)
stops_bad_at (line ∷ lines) reading reached (suc many) k n counted read (inl p) =
    let below : many < length lines = let lt : suc many < suc (length lines) = p.0 in omega arith in
    later_bad (after_line reading line) lines many k n reached read (inl (below, p.1)) (omega arith)
    (λ next s. stops_bad_at lines next s.reached s.many (k + 1) n s.counted s.read s.fault)
stops_bad_at (line ∷ lines) reading reached (suc many) k n counted read (inr p) =
    let below : many ≡ length lines = let e : suc many ≡ suc (length lines) = p.0 in omega arith in
    later_bad (after_line reading line) lines many k n reached read (inr (below, p.1)) (omega arith)
    (λ next s. stops_bad_at lines next s.reached s.many (k + 1) n s.counted s.read s.fault)

not_read : (lines : List (List ℕ)) → after_lines reading_start lines ≡ None → BeginNet lines → ⊥
not_read lines none begins = let found = begins_read lines begins in let is : after_lines reading_start lines ≡ Some found.0 = found.1 in cc

open_none : (stage : Stage) (net other : NetPlan) → IsOpen stage → (let r : NetReading = record { stage = stage; net = net } in r) ≡ closed other → ⊥
open_none Opening net other still e = let same : Opening ≡ Closed = ap (λ (r : NetReading). r.stage) e in cc
open_none Listing net other still e = let same : Listing ≡ Closed = ap (λ (r : NetReading). r.stage) e in cc
open_none Closed net other still e = still

fault_is : (text : List ℕ) (n : ℕ) (s : Stops (lines_of text) reading_start 1 n) → Fault (lines_of text) reading_start s.many s.reached → n ≡ s.many + 1 →
    ((s.many < length (lines_of text)) × (BeginNet (take n (lines_of text)) → ⊥)) ⊎ ((s.many ≡ length (lines_of text)) × ((net : NetPlan) → IsNetText text net → ⊥))
fault_is text n s (inl p) counted =
    let at : suc s.many ≡ n = sym (counted ∙ add-one s.many) in
    inl (p.0, not_read (take n (lines_of text)) (subst (λ m. after_lines reading_start (take m (lines_of text)) ≡ None) at p.1))
fault_is text n s (inr p) counted =
    inr (
      p.0,
      λ net is.
          let whole : take s.many (lines_of text) ≡ lines_of text = ap (λ m. take m (lines_of text)) p.0 ∙ take-length (lines_of text) in
          let read : after_lines reading_start (lines_of text) ≡ Some s.reached = ap (after_lines reading_start) (sym whole) ∙ s.read in
          let end : after_lines reading_start (lines_of text) ≡ Some (closed net) = net_read (lines_of text) net is in
          let same : s.reached ≡ closed net = cc in
          open_none s.reached.stage s.reached.net net p.1 same,
    )

pub bad_is_first : (text : List ℕ) (n : ℕ) → net_told text ≡ BadAt n → IsFirstBadLine text n
bad_is_first text n e =
    let s = bad_stops (lines_of text) reading_start 1 n e in
    let counted : n ≡ s.many + 1 = let c : n ≡ 1 + s.many = s.counted in omega arith in
    record { before = s.many; counted = counted; begins = read_begins (take s.many (lines_of text)) s.reached s.read; fault = fault_is text n s s.fault counted }

none_read : (o : Option NetReading) (lines : List (List ℕ)) → after_lines reading_start lines ≡ o → (BeginNet lines → ⊥) → after_lines reading_start lines ≡ None
none_read None lines e h = e
none_read (Some reading) lines e h = absurd (h (read_begins lines reading e))

open_by : (stage : Stage) (net : NetPlan) (text : List ℕ) → after_lines reading_start (lines_of text) ≡ Some (record { stage = stage; net = net }) → ((net : NetPlan) → IsNetText text net → ⊥) → IsOpen stage
open_by Opening net text e h = tt
open_by Listing net text e h = tt
open_by Closed net text e h = h net (read_net (lines_of text) net e)

fault_of : (text : List ℕ) (n before : ℕ) (reached : NetReading) → n ≡ before + 1 → after_lines reading_start (take before (lines_of text)) ≡ Some reached →
    ((before < length (lines_of text)) × (BeginNet (take n (lines_of text)) → ⊥)) ⊎ ((before ≡ length (lines_of text)) × ((net : NetPlan) → IsNetText text net → ⊥)) →
    Fault (lines_of text) reading_start before reached
fault_of text n before reached counted read (inl p) =
    let at : n ≡ suc before = counted ∙ add-one before in
    inl (p.0, subst (λ m. after_lines reading_start (take m (lines_of text)) ≡ None) at (none_read (after_lines reading_start (take n (lines_of text))) (take n (lines_of text)) refl p.1))
fault_of text n before reached counted read (inr p) =
    let whole : take before (lines_of text) ≡ lines_of text = ap (λ m. take m (lines_of text)) p.0 ∙ take-length (lines_of text) in
    inr (p.0, open_by reached.stage reached.net text (ap (after_lines reading_start) (sym whole) ∙ read) p.1)

pub first_is_bad : (text : List ℕ) (n : ℕ) → IsFirstBadLine text n → net_told text ≡ BadAt n
first_is_bad text n first =
    let found = begins_read (take first.before (lines_of text)) first.begins in
    stops_bad_at (lines_of text) reading_start found.0 first.before 1 n (let c : n ≡ first.before + 1 = first.counted in omega arith) found.1
    (fault_of text n first.before found.0 first.counted found.1 first.fault)
