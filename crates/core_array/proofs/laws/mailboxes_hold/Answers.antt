use Rattle.core_array.proofs.MailboxCells.{keeps_mailboxes}
use Rattle.core_array.proofs.laws.mailboxes_hold.Goals as goal

pub returns : goal.returns
returns c = keeps_mailboxes
