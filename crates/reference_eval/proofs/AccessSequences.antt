-- Accesses one after another.
use Rattle.std.proofs.Common.{◌≡◌, ◌≤◌, ◌<◌, ◌-◌, ℕ, zero, suc, List, [], refl, sym, ap, subst, ◌∙◌, arith}
use Rattle.std.specs.Prelude.{Result, Ok, Err, if◌then◌else◌, Bool, true, false, Option, None, Some, ◌≢◌}
use Rattle.word_table.specs.declared.word.Word.{Word}
use Rattle.forth_program.specs.State.{World, Reply, Gives, Stops, ◌▸◌}
use Rattle.forth_program.specs.State as run
use Rattle.forth_program.specs.Meaning.{meaning}
use Rattle.reference_eval.specs.declared.ends.Halt.{Halt}
use Rattle.reference_eval.specs.declared.ends.Halt.TheVariants as halt
use Rattle.reference_eval.specs.declared.ends.End.TheVariants as end
use Rattle.reference_eval.specs.declared.ends.Stop.{Stop}
use Rattle.reference_eval.specs.declared.ends.Stop.TheVariants as stop
use Rattle.reference_eval.specs.Ends.{end_of}
use Rattle.reference_eval.specs.Outside.{Scene, Whole, Shows}
use Rattle.reference_eval.specs.Answers.{Answer, Gave, Ended, LacksMemory, Does, Reaches, Leaves, cells_answer, reach_of, reach_of_end, answer_of, halted, after}
use Rattle.reference_eval.proofs.SceneSteps.{stays, leads_as, leads_then}

-- nothing is asked for
pub gives : {A : Type 0} (x : A) (s : Scene) → Does (λ w. Gives x w) (Gave x) s s
gives x s = record { leads = stays _ s (λ before w h. refl) }

pub halts : {A : Type 0} (status : ℕ) (s : Scene) → Does {A = A} (λ w. Stops (run.Halted status) w) (Ended (run.Halted status)) s s
halts status s = record { leads = stays _ s (λ before w h. refl) }

-- the same, told otherwise
pub does_as : {A : Type 0} (m n : World → Reply A) (answer : Answer A) (s t : Scene) → ((before : _) (w : World) → Shows before s w → m w ≡ n w) → Does m answer s t → Does n answer s t
does_as m n answer s t same d = record {
  leads = leads_as _ _ (reach_of answer) s t (λ before w later h r. subst (λ x. Reaches answer x later) (same before w h) r) d.leads;
}

-- where data space begins
pub at_start : {A : Type 0} (m : ℕ → World → Reply A) (start : ℕ) (answer : Answer A) (s t : Scene) → start ≡ s.memory.data_start → Does (m start) answer s t → Does (λ w. m w.data_start w) answer s t
at_start m start answer s t e d = does_as (m start) (λ w. m w.data_start w) answer s t (λ before w h. ap (λ x. m x w) (e ∙ sym h.start)) d

-- one thing and then the next
pub follows : {A B : Type 0} (m : World → Reply A) (next : A → World → Reply B) (x : A) (answer : Answer B) (s t u : Scene) → Does m (Gave x) s t → Does (next x) answer t u → Does (λ w. m w ▸ next) answer s u
follows m next x answer s t u d e = record {
  leads = leads_then _ _ _ (reach_of answer) s t u (λ w between later r q. subst (λ y. Reaches answer (y ▸ next) later) (sym r) q) d.leads e.leads;
}

stops : {A B : Type 0} (end : run.End) (r : Reply A) (next : A → World → Reply B) (later : World) → r ≡ Stops end later → (r ▸ next) ≡ Stops end later
stops end r next later e = ap (λ r. r ▸ next) e

-- a halt ends the whole
pub breaks : {A B : Type 0} (m : World → Reply A) (next : A → World → Reply B) (h : Halt) (s t : Scene) → Does m (halted h) s t → Does (λ w. m w ▸ next) (halted h) s t
breaks m next (halt.Ended e) s t d = record { leads = leads_as _ _ (reach_of_end (end_of e)) s t (λ before w later h r. stops (end_of e) (m w) next later r) d.leads }
breaks m next halt.Read s t d = record { leads = leads_as _ _ _ s t (λ before w later h r. stops run.InputEnded (m w) next later r) d.leads }
breaks m next halt.Write s t d = record { leads = leads_as _ _ _ s t (λ before w later h r. stops run.InputEnded (m w) next later r) d.leads }

-- memory was wanting after the whole
pub lacks : {A : Type 0} (m : World → Reply A) (x : A) (s t : Scene) → Does m (Gave x) s t → Does m LacksMemory s t
lacks m x s t d = record { leads = leads_as _ _ Whole s t (λ before w later h r. ap after r) d.leads }

-- ---- loops: whatever the rest comes to, the whole does

pub record Continues {A : Type 0} (whole rest : World → Reply A) (start now : Scene) : Type 0 where
  pub whole_does : (answer : Answer A) (t : Scene) → Does rest answer now t → Does whole answer start t

pub continues : {A : Type 0} (whole : World → Reply A) (s : Scene) → Continues whole whole s s
continues whole s = record { whole_does = λ answer t d. d }

pub continues_as : {A : Type 0} (whole rest other : World → Reply A) (s t : Scene) → Continues whole rest s t → ((w : World) → other w ≡ rest w) → Continues whole other s t
continues_as whole rest other s t c same = record { whole_does = λ answer u d. c.whole_does answer u (does_as other rest answer t u (λ before w h. same w) d) }

-- ---- words

pub means : (word named : Word) (cells taken : List ℕ) (m : World → Reply (List ℕ)) (answer : Answer (List ℕ)) (s t : Scene) → word ≡ named → cells ≡ taken → ((w : World) →
    m w ≡ meaning named taken w) → Does m answer s t → Does (meaning word cells) answer s t
means word named cells taken m answer s t e f same d =
    does_as m (meaning word cells) answer s t (λ before w h. same w ∙ ap (λ c. meaning named c w) (sym f) ∙ ap (λ n. meaning n cells w) (sym e)) d

pub gives_as : {A : Type 0} (x y : A) (s : Scene) → y ≡ x → Does (λ w. Gives y w) (Gave x) s s
gives_as x y s e = record { leads = stays _ s (λ before w h. ap (λ z. Gives z w) e) }

pub continues_past : {A B : Type 0} (whole : World → Reply B) (m : World → Reply A) (next : A → World → Reply B) (x : A) (s t u : Scene) → Continues whole (λ w. m w ▸ next) s t → Does m (Gave x) t u → Continues whole (next x) s u
continues_past whole m next x s t u c d = record { whole_does = λ answer v e. c.whole_does answer v (follows m next x answer t u v d e) }

-- a turn of a loop that counts down
pub opens : {A : Type 0} (whole : World → Reply A) (f : ℕ → World → Reply A) (n : ℕ) (s t : Scene) → 0 < n → Continues whole (f n) s t → Continues whole (f (suc (n - 1))) s t
opens whole f n s t h c = continues_as whole (f n) (f (suc (n - 1))) s t c (λ w. let e : suc (n - 1) ≡ n = omega arith in ap (λ k. f k w) e)

-- the end of one
pub ends : {A : Type 0} (whole : World → Reply A) (f : ℕ → World → Reply A) (n : ℕ) (x : A) (s t : Scene) → n ≤ 0 → ((w : World) → f 0 w ≡ Gives x w) → Continues whole (f n) s t → Does whole (Gave x) s t
ends whole f n x s t h same c = c.whole_does (Gave x) t (does_as (λ w. Gives x w) (f n) (Gave x) t t (λ before w k. let e : 0 ≡ n = omega arith in sym (same w) ∙ ap (λ k. f k w) e) (gives x t))

pub whole_is : {A : Type 0} (whole rest : World → Reply A) (answer : Answer A) (s t u : Scene) → Continues whole rest s t → Does rest answer t u → Does whole answer s u
whole_is whole rest answer s t u c d = c.whole_does answer u d

-- ---- choices

pub picks_true : {A : Type 0} (b : Bool) (x y : World → Reply A) (answer : Answer A) (s t : Scene) → b ≡ true → Does x answer s t → Does (λ w. if b then x w else y w) answer s t
picks_true true x y answer s t e d = d
picks_true false x y answer s t e d = absurd cc

pub picks_false : {A : Type 0} (b : Bool) (x y : World → Reply A) (answer : Answer A) (s t : Scene) → b ≡ false → Does y answer s t → Does (λ w. if b then x w else y w) answer s t
picks_false true x y answer s t e d = absurd cc
picks_false false x y answer s t e d = d

pub true_case : {A : Type 0} (b : Bool) (x y : World → Reply A) (answer : Answer A) (s t : Scene) → b ≡ true → Does x answer s t → Does (λ w. elim b [ true ↦ x w | false ↦ y w ]) answer s t
true_case true x y answer s t e d = d
true_case false x y answer s t e d = absurd cc

pub false_case : {A : Type 0} (b : Bool) (x y : World → Reply A) (answer : Answer A) (s t : Scene) → b ≡ false → Does y answer s t → Does (λ w. elim b [ true ↦ x w | false ↦ y w ]) answer s t
false_case true x y answer s t e d = absurd cc
false_case false x y answer s t e d = d

pub none_case : {A : Type 0} (o : Option ℕ) (x : World → Reply A) (y : ℕ → World → Reply A) (answer : Answer A) (s t : Scene) → o ≡ None → Does x answer s t → Does (λ w. elim o [ None ↦ x w | Some d ↦ y d w ]) answer s t
none_case None x y answer s t e d = d
none_case (Some n) x y answer s t e d = absurd cc

pub some_case : {A : Type 0} (o : Option ℕ) (n : ℕ) (x : World → Reply A) (y : ℕ → World → Reply A) (answer : Answer A) (s t : Scene) → o ≡ Some n → Does (y n) answer s t → Does (λ w. elim o [ None ↦ x w | Some d ↦ y d w ]) answer s t
some_case None n x y answer s t e d = absurd cc
some_case (Some m) n x y answer s t e d = let f : n ≡ m = cc in subst (λ k. Does (y k) answer s t) f d

pub zero_case : {A : Type 0} (n : ℕ) (x : World → Reply A) (y : ℕ → World → Reply A) (answer : Answer A) (s t : Scene) → n ≡ 0 → Does x answer s t → Does (λ w. elim n [ zero ↦ x w | suc m ↦ y m w ]) answer s t
zero_case zero x y answer s t e d = d
zero_case (suc n) x y answer s t e d = absurd cc

pub suc_case : {A : Type 0} (n : ℕ) (x : World → Reply A) (y : ℕ → World → Reply A) (answer : Answer A) (s t : Scene) → n ≢ 0 → Does (y (n - 1)) answer s t → Does (λ w. elim n [ zero ↦ x w | suc m ↦ y m w ]) answer s t
suc_case zero x y answer s t e d = absurd (e refl)
suc_case (suc n) x y answer s t e d = let f : suc n - 1 ≡ n = omega arith in subst (λ k. Does (y k) answer s t) f d

-- the same for what a loop still has to do
pub continues_by : {A : Type 0} (whole rest other : World → Reply A) (s t : Scene) → Continues whole rest s t → ((answer : Answer A) (u : Scene) → Does other answer t u → Does rest answer t u) → Continues whole other s t
continues_by whole rest other s t c by = record { whole_does = λ answer u d. c.whole_does answer u (by answer u d) }

-- what comes of accesses is put on the cells
nowhere : World
nowhere = record { data_start = 0; space = []; input = []; printed = []; made = [] }

put_same : (cells left : List ℕ) (w : World) → Gives left w ≡ Gives cells w → left ≡ cells
put_same cells left w e = cc

pub puts : {A U : Type 0} (m : World → Reply A) (f : A → List ℕ) (x : A) (left : List ℕ) (r : Result U Stop) (cells : List ℕ) (s t : Scene) → left ≡ f x → ((w : World) → Leaves r cells
    (Gives left w) w) → Does m (Gave x) s t → Does (λ w. m w ▸ λ y. Gives (f y)) (cells_answer r cells) s t
puts m f x left (Ok done) cells s t e l d = follows m (λ y. Gives (f y)) x (Gave cells) s t t d (gives_as cells (f x) t (sym e ∙ put_same cells left nowhere (l nowhere)))
puts m f x left (Err (stop.Halt (halt.Ended end.InputEnded))) cells s t e l d = absurd (l nowhere)
puts m f x left (Err (stop.Halt (halt.Ended (end.Halted n)))) cells s t e l d = absurd (let q = l nowhere in cc)
puts m f x left (Err (stop.Halt (halt.Ended (end.Outside n)))) cells s t e l d = absurd (let q = l nowhere in cc)
puts m f x left (Err (stop.Halt halt.Read)) cells s t e l d = absurd (l nowhere)
puts m f x left (Err (stop.Halt halt.Write)) cells s t e l d = absurd (l nowhere)
puts m f x left (Err stop.Underflow) cells s t e l d = absurd (let q = l nowhere in cc)
puts m f x left (Err stop.Unbalanced) cells s t e l d = absurd (let q = l nowhere in cc)
puts m f x left (Err (stop.Left address)) cells s t e l d = absurd (let q = l nowhere in cc)
puts m f x left (Err stop.OutOfMemory) cells s t e l d = lacks (λ w. m w ▸ λ y. Gives (f y)) (f x) s t (follows m (λ y. Gives (f y)) x (Gave (f x)) s t t d (gives (f x) t))

-- as the code has them
pub put_ok : {A U : Type 0} (answer : Result A Halt) (x : A) (m : World → Reply A) (f : A → List ℕ) (left : List ℕ) (r : Result U Stop) (cells : List ℕ) (s t : Scene) → answer ≡ Ok x → left ≡ f x →
    ((w : World) → Leaves r cells (Gives left w) w) → Does m (answer_of answer) s t → Does (λ w. m w ▸ λ y. Gives (f y)) (cells_answer r cells) s t
put_ok answer x m f left r cells s t a e l d = puts m f x left r cells s t e l (subst (λ r. Does m (answer_of r) s t) a d)

pub put_err : {A : Type 0} (answer : Result A Halt) (h : Halt) (m : World → Reply A) (next : A → World → Reply (List ℕ)) (s t : Scene) → answer ≡ Err h → Does m (answer_of answer) s t → Does (λ w. m w ▸ next) (halted h) s t
put_err answer h m next s t a d = breaks m next h s t (subst (λ r. Does m (answer_of r) s t) a d)

-- a word with too few cells
pub underflows : (word : Word) (cells taken : List ℕ) (s : Scene) → cells ≡ taken → ((w : World) → meaning word taken w ≡ Stops run.Underflow w) → Does (meaning word cells) (Ended run.Underflow) s s
underflows word cells taken s e same = does_as (λ w. Stops run.Underflow w) (meaning word cells) (Ended run.Underflow) s s (λ before w h. sym (same w) ∙ ap (λ c. meaning word c w) (sym e)) (record { leads = stays _ s (λ before w h. refl) })

-- one inside the other
pub nested : {A B C : Type 0} (r : Reply A) (f : A → World → Reply B) (g : B → World → Reply C) → ((r ▸ f) ▸ g) ≡ (r ▸ λ x w. f x w ▸ g)
nested (Gives x w) f g = refl
nested (Stops end w) f g = refl

pub nested_twice : {A B C D : Type 0} (r : Reply A) (m : A → World → Reply B) (n : A → B → World → Reply C) (g : C → World → Reply D) → ((r ▸ λ x w. m x w ▸ n x) ▸ g) ≡ (r ▸ λ x w. m x w ▸ λ y w. n x y w ▸ g)
nested_twice (Gives x w) m n g = nested (m x w) (n x) g
nested_twice (Stops end w) m n g = refl
