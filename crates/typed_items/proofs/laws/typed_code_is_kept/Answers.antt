use Rattle.typed_items.proofs.Kept.{typed_code_is_kept}
use Rattle.typed_items.proofs.laws.typed_code_is_kept.Goals as goal

pub returns : goal.returns
returns c = typed_code_is_kept
