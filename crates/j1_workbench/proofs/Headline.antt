-- The headline, for the program of each text that has a certificate.
use Rattle.std.proofs.Common.{◌≡◌, true}
use Rattle.std.specs.List.{list_all}
use Rattle.forth_program.specs.Form.{everywhere}
use Rattle.word_table.specs.declared.word.Vocabulary.TheVariants.{Source}
use Rattle.control_flow.specs.SourceLaw.{EachProgramIsSource, SourcesHaveNoGo}
use Rattle.chip_laws.specs.Certified.{CertifiedChipsAgree, CertifiedChipsKeepTight}
use Rattle.library_laws.specs.Bodies.{whole_library}
use Rattle.code_layout.specs.Library.{IsLibrary, LibraryMeans}
use Rattle.code_layout.specs.LastCalls.{begins_well, LastCallsAreJumps}
use Rattle.j1_workbench.specs.Headline.{TextsAreBuilt, CertifiedTextsAgree}

pub texts_agree : TextsAreBuilt → EachProgramIsSource → SourcesHaveNoGo → IsLibrary whole_library → LibraryMeans whole_library → list_all (everywhere begins_well) whole_library ≡ true →
    CertifiedChipsAgree → CertifiedChipsKeepTight → LastCallsAreJumps → CertifiedTextsAgree
texts_agree built sources lack_go form means begins agree tight last text program certificate is valid =
    let source = sources Source text program is in
    let none = lack_go text program is in
    let laid = built text program is in
    record {
      agrees = λ input bytes. agree whole_library program input form means laid source.bytes bytes none (certificate, valid);
      tight = λ z input valid bytes. tight whole_library program input z form means laid source.bytes bytes none valid;
      last_calls = λ well. last whole_library program form begins laid source.calls_back well;
    }
