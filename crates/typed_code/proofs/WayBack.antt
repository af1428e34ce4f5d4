-- A return behind GO on the open machine, and the code before data space.
use Rattle.std.proofs.Common.{◌≡◌, ℕ, zero, suc, ◌+◌, ◌-◌, ◌<◌, List, [], ◌∷◌, ◌++◌, length, Option, Some, None, ℤ, pos, refl, sym, ap, ◌∙◌, arith, length-set}
use Rattle.std.specs.Prelude.{slice_set}
use Rattle.std.proofs.lemmas.List.{set-append_right}
use Rattle.forth_program.specs.Cells.{AreCells}
use Rattle.word_laws.specs.Rings.{OpenConfiguration}
use Rattle.code_layout.specs.Returning.{MachineReturn, machine_back}
use Rattle.typed_code.specs.MachineCode.{user_cells, with_cells}
use Rattle.typed_code.specs.Standing.{Surroundings, stands_at, called_from, place_of}
use Rattle.typed_code.specs.WayBack.{given_back, ReturnsGoBack, SavedKeepsCode}
use Rattle.typed_code.proofs.Instructions.{down_one}

-- the machine where a return leads it, by its counter
abbrev counted_by : List ℕ → ℕ → Surroundings → MachineReturn → ℤ → OpenConfiguration
counted_by code address s r n =
    record {
      core = record {
        pc = place_of address;
        t = None;
        data_stack = record { below = []; above = r.data_above; at = pos 0 };
        return_stack = record { below = s.returns; above = Some address ∷ r.return_above; at = n };
        memory = code ++ r.back.space;
      };
      input = r.back.input;
      printed = s.printed ++ r.back.printed;
      data_depth = pos 0;
      return_depth = n;
      stop = None;
    }

stands_back : (code memory : List ℕ) (place address : ℕ) (s : Surroundings) (da ra : List (Option ℕ)) (r : MachineReturn) →
    stands_at (place_of address) [] (code ++ r.back.space) (record s { input = r.back.input; printed = s.printed ++ r.back.printed }) r.data_above (Some address ∷ r.return_above)
    ≡ machine_back code r (stands_at place [] memory (called_from address s) da ra)
stands_back code memory place address s da ra r = ap (counted_by code address s r) (sym (down_one (length s.returns)))

pub returns_go_back : ReturnsGoBack
returns_go_back count high return_high place address memory code space input printed s da ra come =
    let r : MachineReturn = record { back = given_back space input printed; data_above = come.data_above; return_above = come.return_above } in
    record { data_above = come.data_above; return_above = come.return_above; makes = come.makes ∙ stands_back code memory place address s da ra r; bounds = come.bounds }

-- one store in data space
set_cells : (space : List ℕ) (place v : ℕ) → v < 0x10000 → AreCells space → AreCells (slice_set space place v)
set_cells [] place v small cells = tt
set_cells (x ∷ space) zero v small cells = (small, cells.1)
set_cells (x ∷ space) (suc place) v small cells = (cells.0, set_cells space place v small cells.1)

with_keeps : (c code space : List ℕ) → length code ≡ 0x1000 → (after : List ℕ) × (with_cells c (code ++ space) ≡ code ++ after) × (length after ≡ length space) × (AreCells space → AreCells c → AreCells after)
with_keeps [] code space size = (space, refl, refl, λ cells above. cells)
with_keeps (x ∷ c) code space size =
    let place = user_cells + length (x ∷ c) in
    let now = slice_set space (place - 0x1000) x in
    let e : slice_set (code ++ space) place x ≡ code ++ now = set-append_right code space 0x1000 place x size (omega arith) in
    let more = with_keeps c code now size in
    (more.0, ap (with_cells c) e ∙ more.1, more.2 ∙ length-set space (place - 0x1000) x, λ cells above. more.3 (set_cells space (place - 0x1000) x above.0 cells) above.1)

pub saved_keeps_code : SavedKeepsCode
saved_keeps_code code space c size small =
    let now = slice_set space (user_cells - 0x1000) (length c) in
    let e : slice_set (code ++ space) user_cells (length c) ≡ code ++ now = set-append_right code space 0x1000 user_cells (length c) size (omega arith) in
    let more = with_keeps c code now size in
    record {
      after = more.0;
      memory = ap (with_cells c) e ∙ more.1;
      size = more.2 ∙ length-set space (user_cells - 0x1000) (length c);
      cells = λ cells above. more.3 (set_cells space (user_cells - 0x1000) (length c) (omega arith) cells) above;
    }
