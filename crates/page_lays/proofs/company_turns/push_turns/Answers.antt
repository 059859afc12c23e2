use Rattle.std.proofs.Common.{List, ◌++◌, inl, sym, ap, ◌∙◌, append_assoc, arith}
use Rattle.page_lays.proofs.TurnLemmas.{one_more}
use Rattle.page_lays.specs.Turns.{is_wanted}
use Rattle.page_lays.specs.declared.company_turns.Turn.{Turn}
use Rattle.page_lays.proofs.company_turns.push_turns.Goals as goal

pub loop-turns-preserved : goal.loop-turns-preserved
loop-turns-preserved g c =
    let so_far = c.loop-turns.invariant in
    let turn = c.in_ok-ahead.ensures in (
      so_far.0 ++ turn.turns,
      one_more (is_wanted c.args.asked.1.companies.now) c.loop-turns.turns c.args.opened c.loop-turns.ahead
          c.in_ok-ahead.ahead so_far.0 turn.turns c.in-Some.company so_far.1
          (sym c.next_company.ensures ∙ c.in-Some.is) turn.its,
      turn.added ∙ ap (λ (list : List Turn). list ++ turn.turns) so_far.2
          ∙ append_assoc c.args.list.now.items so_far.0 turn.turns,
      omega (arith, c.loop-turns-test.true),
    )

pub returns : goal.returns
returns g c =
    let so_far = c.loop-turns.invariant in
    record {
      turns = so_far.0;
      are = record {
        count = c.loop-turns.turns;
        last = c.loop-turns.ahead;
        have = so_far.1;
        over = inl (omega (arith, c.loop-turns-test.false, so_far.3));
      };
      added = so_far.2;
    }
