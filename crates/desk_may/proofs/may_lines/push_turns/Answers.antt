use Rattle.std.proofs.Common.{ℕ, List, ◌++◌, inl, sym, ap, ◌∙◌, append_assoc, arith}
use Rattle.desk_may.proofs.OperatingLemmas.{one_more_written}
use Rattle.desk_may.proofs.may_lines.push_turns.Goals as goal

pub loop-turns-preserved : goal.loop-turns-preserved
loop-turns-preserved c =
    let so_far = c.loop-turns.invariant in
    let turn = c.in_ok-ahead.ensures in (
      so_far.0 ++ turn.lines,
      one_more_written c.args.presidents.now c.args.seat c.loop-turns.turns c.args.opened c.loop-turns.ahead
          c.in_ok-ahead.ahead so_far.0 turn.lines c.in-Some.company so_far.1
          (sym c.next_company.ensures ∙ c.in-Some.is) turn.written,
      turn.added ∙ ap (λ (text : List ℕ). text ++ turn.lines) so_far.2
          ∙ append_assoc c.args.out.now.items so_far.0 turn.lines,
      omega (arith, c.loop-turns-test.true),
    )

pub returns : goal.returns
returns c =
    let so_far = c.loop-turns.invariant in
    record {
      lines = so_far.0;
      written = record {
        count = c.loop-turns.turns;
        last = c.loop-turns.ahead;
        turns = so_far.1;
        over = inl (omega (arith, c.loop-turns-test.false, so_far.3));
      };
      added = so_far.2;
    }
