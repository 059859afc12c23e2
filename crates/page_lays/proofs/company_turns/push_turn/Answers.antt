use Rattle.std.proofs.Common.{[], ◌∷◌, inl, inr, refl, sym, ◌∙◌}
use Rattle.std.proofs.lemmas.List.{append-nil}
use Rattle.std.proofs.lemmas.Result.{IfOk-weaker}
use Rattle.page_lays.proofs.company_turns.push_turn.Goals as goal

pub returns-then-not-has : goal.returns-then-not-has
returns-then-not-has g c =
    IfOk-weaker c.take_turn.result _ _
    (λ new turn. record {
      turns = [];
      its = inr (inl (sym c.has.ensures ∙ c.if-not-has.true), turn, refl);
      added = sym (append-nil c.args.list.now.items);
    })
    c.take_turn.ensures

pub returns-in-Some : goal.returns-in-Some
returns-in-Some g c =
    IfOk-weaker c.push_turn_by.result _ _
    (λ new added. record {
      turns = added.turn ∷ [];
      its = inl (sym c.has.ensures ∙ c.if-not-has.false, c.in-Some.president, added.turn, added.its, refl);
      added = added.added;
    })
    c.push_turn_by.ensures

pub returns-in-None : goal.returns-in-None
returns-in-None g c =
    IfOk-weaker c.take_turn-in-None.result _ _
    (λ new turn. record {
      turns = [];
      its = inr (inr (sym c.president_in.ensures ∙ c.in-None.is), turn, refl);
      added = sym (append-nil c.args.list.now.items);
    })
    c.take_turn-in-None.ensures
