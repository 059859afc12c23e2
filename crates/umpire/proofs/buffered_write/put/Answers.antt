use Rattle.order_grammar.proofs.PrefixLemmas.{at_error}
use Rattle.umpire.proofs.GatherLemmas.{gathers_all, prefix_so_far}
use Rattle.umpire.proofs.Parts.{prefix_of_second_part}
use Rattle.umpire.proofs.buffered_write.put.Goals as goal

pub returns-in_err-write_text-clause-prefix : goal.returns-in_err-write_text-clause-prefix
returns-in_err-write_text-clause-prefix g c =
    at_error c.from_residual-in_err-write_text.result
    (prefix_of_second_part _ _ _ _ _ c.in_ok-write_gathered.ensures.ok c.in_err-write_text.ensures.prefix)

pub returns-then-text-ge-PIECE-clause-ok : goal.returns-then-text-ge-PIECE-clause-ok
returns-then-text-ge-PIECE-clause-ok g c =
    gathers_all _ _ _ _ _ _ c.in_ok-write_gathered.ensures.ok c.in_ok-write_gathered.ensures.empty
    c.in_ok-write_text.ensures.ok

pub returns-in_err-extend_from_slice-clause-prefix :
    goal.returns-in_err-extend_from_slice-clause-prefix
returns-in_err-extend_from_slice-clause-prefix g c =
    at_error c.from_residual-in_err-extend_from_slice.result
    (prefix_so_far _ _ _ _ _ c.args.text.now c.in_ok-make_room.ensures.ok)
