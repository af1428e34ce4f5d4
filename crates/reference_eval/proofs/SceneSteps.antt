-- What leads on from scene to scene.
use Rattle.std.proofs.Common.{◌≡◌, ◌+◌, ◌≤◌, ℕ, List, [], ◌++◌, length, Option, Some, None, Bool, true, false, refl, sym, ap, ◌∙◌, append_assoc, arith}
use Rattle.std.proofs.lemmas.List.{length-append}
use Rattle.outside_io.specs.Causes.{Rose}
use Rattle.forth_program.specs.State.{World}
use Rattle.reference_eval.specs.Outside.{Input, Scene, Shows, Reach, Whole, Dry, NotRead, NotWritten, LosesBytes, Loses, asked_in_vain, Caused, Faults, Leads}

-- ---- nothing changes outside

no_faults : (s : Scene) → Faults Whole s s
no_faults s = record { reads = omega arith; writes = omega arith; failed = λ e f. absurd cc; caused = tt }

no_bytes_lost : (bytes : Option (List ℕ)) → LosesBytes Whole [] bytes bytes
no_bytes_lost None = tt
no_bytes_lost (Some bytes) = refl

pub loses_nothing : (input : Input) → Loses Whole [] input input
loses_nothing input = record { bytes = no_bytes_lost input.bytes; calls = omega arith }

pub stays : (reached : World → World → Type 0) (s : Scene) → ((before : Option (List ℕ)) (w : World) → Shows before s w → reached w w) → Leads reached Whole s s
stays reached s here = record {
  took = [];
  loses = loses_nothing s.input;
  faults = no_faults s;
  meant = λ before w rest e m h. record { world = w; is_reached = here before w h; shows = h; left = e };
}

-- ---- the same, told otherwise

pub leads_as : (reached other : World → World → Type 0) (reach : Reach) (s t : Scene) → ((before : Option (List ℕ)) (w later : World) → Shows before s w → reached w later → other w later) → Leads reached reach s t → Leads other reach s t
leads_as reached other reach s t same l = record {
  took = l.took;
  loses = l.loses;
  faults = l.faults;
  meant = λ before w rest e m h. let x = l.meant before w rest e m h in record { world = x.world; is_reached = same before w x.world h x.is_reached; shows = x.shows; left = x.left };
}

-- ---- one after the other

bytes_both : (reach : Reach) (a b : List ℕ) (x y z : Option (List ℕ)) → LosesBytes Whole a x y → LosesBytes reach b y z → LosesBytes reach (a ++ b) x z
bytes_both reach a b None y z h k = tt
bytes_both reach a b (Some x) None z h k = absurd h
bytes_both reach a b (Some x) (Some y) None h k = k
bytes_both Whole a b (Some x) (Some y) (Some z) h k = h ∙ ap (λ t. a ++ t) k ∙ sym (append_assoc a b z)
bytes_both Dry a b (Some x) (Some y) (Some z) h k = (h ∙ ap (λ t. a ++ t) k.0 ∙ sym (append_assoc a b z), k.1)
bytes_both NotRead a b (Some x) (Some y) (Some z) h k = h ∙ ap (λ t. a ++ t) k ∙ sym (append_assoc a b z)
bytes_both NotWritten a b (Some x) (Some y) (Some z) h k = h ∙ ap (λ t. a ++ t) k ∙ sym (append_assoc a b z)

loses_both : (reach : Reach) (a b : List ℕ) (x y z : Input) → Loses Whole a x y → Loses reach b y z → Loses reach (a ++ b) x z
loses_both reach a b x y z h k =
    let joined : length (a ++ b) ≡ length a + length b = length-append a b in
    record { bytes = bytes_both reach a b x.bytes y.bytes z.bytes h.bytes k.bytes; calls = omega (arith, h.calls, k.calls, joined) }

rose_before : (a b c : ℕ) → a ≤ b → Rose b c → Rose a c
rose_before a b c h r = omega arith

rose_after : (a b c : ℕ) → Rose a b → b ≤ c → Rose a c
rose_after a b c r h = omega arith

pub failed_both : (b : Bool) (x y z : ℕ) → x ≤ y → y ≤ z → (b ≡ true → Rose x y) → (b ≡ false → Rose y z) → Rose x z
failed_both true x y z h k f g = rose_after x y z (f refl) k
failed_both false x y z h k f g = rose_before x y z h (g refl)

caused_both : (reach : Reach) (s t u : Scene) → s.read_faults ≤ t.read_faults → Caused reach t u → Caused reach s u
caused_both Whole s t u h c = tt
caused_both Dry s t u h c = c
caused_both NotRead s t u h c = (rose_before s.read_faults t.read_faults u.read_faults h c.0, c.1)
caused_both NotWritten s t u h c = c

faults_both : (reach : Reach) (s t u : Scene) → Faults Whole s t → Faults reach t u → Faults reach s u
faults_both reach s t u f g = record {
  reads = omega (arith, f.reads, g.reads);
  writes = omega (arith, f.writes, g.writes);
  failed = λ e n. failed_both t.memory.failed s.write_faults t.write_faults u.write_faults f.writes g.writes (λ x. f.failed x n) (λ x. g.failed e x);
  caused = caused_both reach s t u f.reads g.caused;
}

pub leads_then : (first second both : World → World → Type 0) (reach : Reach) (s t u : Scene) → ((w between later : World) → first w between → second between later → both w later) →
    Leads first Whole s t → Leads second reach t u → Leads both reach s u
leads_then first second both reach s t u join l k = record {
  took = l.took ++ k.took;
  loses = loses_both reach l.took k.took s.input t.input u.input l.loses k.loses;
  faults = faults_both reach s t u l.faults k.faults;
  meant = λ before w rest e m h.
      let x = l.meant before w (k.took ++ rest) (e ∙ append_assoc l.took k.took rest) tt h in
      let y = k.meant before x.world rest x.left m x.shows in
      record { world = y.world; is_reached = join w x.world y.world x.is_reached y.is_reached; shows = y.shows; left = y.left };
}
