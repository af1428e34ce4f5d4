use Rattle.kernel_lines.proofs.Splitting as splitting
use Rattle.kernel_lines.proofs.Interpreting as interpreting
use Rattle.kernel_lines.proofs.Checks as checks
use Rattle.kernel_lines.proofs.Resets as resets
use Rattle.kernel_lines.proofs.Replies as replies
use Rattle.kernel_lines.proofs.Reading as reading
use Rattle.kernel_lines.proofs.NextWords as next
use Rattle.kernel_lines.proofs.laws.lines_keep_their_laws.Goals as goal

pub returns-clause-checked : goal.returns-clause-checked
returns-clause-checked c = checks.words_are_checked

pub returns-clause-places : goal.returns-clause-places
returns-clause-places c = checks.places_are_kept

pub returns-clause-set_back : goal.returns-clause-set_back
returns-clause-set_back c = resets.kernel_is_set_back

pub returns-clause-reply : goal.returns-clause-reply
returns-clause-reply c = replies.replies_are_given

pub returns-clause-line : goal.returns-clause-line
returns-clause-line c = reading.lines_are_read

pub returns-clause-next : goal.returns-clause-next
returns-clause-next c = next.next_words_are_read c.kernel_words_keep_their_laws.ensures.next_kept

pub returns-clause-in_turn : goal.returns-clause-in_turn
returns-clause-in_turn c = next.words_are_read_in_turn c.kernel_words_keep_their_laws.ensures.next_kept

pub returns-clause-bytes : goal.returns-clause-bytes
returns-clause-bytes c = interpreting.words_have_bytes

pub returns-clause-whole : goal.returns-clause-whole
returns-clause-whole c = splitting.words_are_whole
