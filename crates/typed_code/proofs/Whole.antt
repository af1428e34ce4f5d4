-- A typed word as a whole, on the chip.
use Rattle.std.proofs.Common.{◌+◌, ◌*◌, [], ◌∷◌, ◌++◌, length, Some, subst, arith}
use Rattle.typed_code.specs.MachineCode.{run_code}
use Rattle.typed_code.specs.Standing.{stands_at, called_from, place_of, Comes}
use Rattle.typed_code.specs.Laws.{TypedWordsComeBack}
use Rattle.typed_code.specs.WayBack.{Returns, ReturnsGoBackOnChip, SavedKeepsCode, TypedWordsGoBackOnChip}

pub typed_words_go_back : TypedWordsComeBack → ReturnsGoBackOnChip → SavedKeepsCode → TypedWordsGoBackOnChip
typed_words_go_back comes goes keeps code space c space' d input printed addresses address k high return_high s da ra chip size has cells small has' small' deep deep' most under few known word same =
    let kept = keeps code space' d size small' in
    let n = 29 + 13 * length c + 12 * length d + k in
    let back : Returns n high return_high run_code address (code ++ space) code kept.after input printed s da ra =
    subst (λ memory. Comes n high return_high (stands_at run_code [] (code ++ space) (called_from address s) da ra)
    (place_of address) [] memory (record s { input = input; printed = s.printed ++ printed }) (Some address ∷ [])) kept.memory
    (comes (code ++ space) c (code ++ space') d input (s.printed
    ++ printed) address k high return_high s has cells small has' small' deep deep' under word da ra) in (
      kept,
      goes n high return_high run_code address (code ++ space) code kept.after input printed addresses s da ra chip back most few
          (omega arith) known same,
    )
