use Rattle.typed_code.proofs.TypedWords.{typed_words_do_their_meaning}
use Rattle.typed_code.proofs.typed_words.typed_words_do_their_meaning.Goals as goal

pub returns : goal.returns
returns c =
    typed_words_do_their_meaning (record {
      runs = c.runs_join.ensures.runs;
      bounds = c.runs_join.ensures.bounds;
      wider = c.runs_join.ensures.wider;
      grow = c.worlds_grow.ensures;
      loads = c.cells_are_loaded.ensures.run_code;
      saves = c.cells_are_saved.ensures.save;
      saved_cells = c.cells_are_saved.ensures.saved;
      jumps = c.calls_lead_behind.ensures.jump;
      goes = c.returns_go_back.ensures.open;
      keeps = c.saved_cells_keep_code.ensures;
      items = c.items_do_their_meaning.ensures.forward;
      shows_no_more = c.items_do_their_meaning.ensures.no_more;
      kept = c.typed_code_is_kept.ensures;
    })
