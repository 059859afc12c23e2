-- Which companies have operated after a company's turn: those that had before, and the company.
use Rattle.std.proofs.Common.{◌≡◌, ℕ, ◌==◌, Bool, true, false, not, ◌||◌, if◌then◌else◌, List, [], ◌∷◌, ◌++◌, Option}
use Rattle.std.proofs.Common.{Some, None, is_some, refl, sym}
use Rattle.std.proofs.Common.{ap, subst, ◌∙◌}
use Rattle.std.specs.Option.{option_flatten, option_map, option_or}
use Rattle.std.proofs.Math.Bool.{or-true, or-false}
use Rattle.std.proofs.lemmas.Bool.{or_parts}
use Rattle.events.specs.Event.{operated_by, round_begun_by}
use Rattle.events.specs.RuleCodes.{code_of_pay_rule}
use Rattle.events.specs.declared.event.Event.{Event}
use Rattle.events.specs.declared.event.Event.TheVariants as event
use Rattle.events.specs.declared.ruling.PayRule.TheVariants.{NothingToPay}
use Rattle.totals.proofs.EventAtEnd.{last_said_at_end}
use Rattle.totals.specs.LookBack.{Game, in_round, last_said, with_event}
use Rattle.totals.specs.Shares.{president_of}
use Rattle.totals.specs.Operating.{has_operated, turn_said}
use Rattle.operating.proofs.TurnEvents.{begins_none, own_alone}
use Rattle.operating.proofs.ForcedGames.{OfForced, forced_begins_none, forced_operates_none, of_game_turn}
use Rattle.operating.proofs.ForcedGames.{of_orders_end}
use Rattle.operating.proofs.TurnGames.{OfEvents, after_withheld, by_each, of_steps}
use Rattle.operating.proofs.TurnSteps.{OfSteps, of_turn}
use Rattle.operating.specs.Laws.{CompanyOperates}
use Rattle.operating.specs.Pay.{pay_judgement, pay_rules, withheld, withheld_if_unpaid}
use Rattle.operating.specs.Progress.{is_past_pay, is_unpaid, pay_done}
use Rattle.operating.specs.Turn.{IsCompanyTurn}
use Rattle.operating.specs.TurnState.{TurnState, turn_state}
use Rattle.operating.specs.declared.progress.Progress.{Progress}
use Rattle.tables.proofs.Companies.{company_is, company_is_same}
use Rattle.tables.specs.Roster.{same_company}
use Rattle.tables.proofs.Rules.{not_broken}
use Rattle.tables.specs.declared.roster.Company.{Company}
use Rattle.tables.specs.declared.round.Round.{Round}

-- what was said before and by the event at the end, which begins no round
word_more : (begins : Bool) (word : Option Company) (before : Option (Option Company)) → begins ≡ false →
    is_some (option_flatten (option_or (if begins then Some None else option_map Some word) before))
    ≡ (is_some (option_flatten before) || is_some word)
word_more true word before none = absurd (cc)
word_more false None before none = sym (or-false (is_some (option_flatten before)))
word_more false (Some company) before none = sym (or-true (is_some (option_flatten before)))

-- a company has operated once one more event is at the end
one_more : (company : Company) (events : List Event) (its : Event) → is_some (round_begun_by its) ≡ false →
    has_operated (events ++ its ∷ []) company ≡ (has_operated events company
    || is_some (turn_said company (operated_by its)))
one_more company events its none =
    let says : Event → Option (Option Company) = in_round (λ its. turn_said company (operated_by its)) in
    ap (λ (said : Option (Option Company)). is_some (option_flatten said)) (last_said_at_end says events its)
    ∙ word_more (is_some (round_begun_by its)) (turn_said company (operated_by its)) (last_said says events) none

-- between a game and a later one none but the company has operated, and each that had has
record Operates (company : Company) (before after : Game) : Type 0 where
  others : (other : Company) → same_company company other ≡ false
      → has_operated after.events other ≡ has_operated before.events other
  still : (other : Company) → has_operated before.events other ≡ true → has_operated after.events other ≡ true

-- so it is by each event of the company's turn
by_events : (company : Company) → OfEvents company (Operates company)
by_events company =
    by_each company (Operates company)
    (record {
      same = λ game. record { others = λ other apart. refl; still = λ other has. has };
      both = λ a b c one two. record {
        others = λ other apart. two.others other apart
            ∙ one.others other apart;
        still = λ other has. two.still other (one.still other has);
      };
    })
    (λ game its is. record {
      others = λ other apart. one_more other game.events its (begins_none company game its is)
          ∙ ap (λ (b : Bool). has_operated game.events other || b) (own_alone company other game its is apart)
          ∙ or-false (has_operated game.events other);
      still = λ other has. one_more other game.events its (begins_none company game its is)
          ∙ ap (λ (b : Bool). b || is_some (turn_said other (operated_by its))) has;
    })

-- and by each of a forced purchase
more_events : (company : Company) → OfForced (Operates company)
more_events company game its is no_tile no_train no_phase =
    record {
      others = λ other apart. one_more other game.events its (forced_begins_none its is)
          ∙ ap (λ (word : Option Company). has_operated game.events other || is_some (turn_said other word))
          (forced_operates_none its is)
          ∙ or-false (has_operated game.events other);
      still = λ other has. one_more other game.events its (forced_begins_none its is)
          ∙ ap (λ (b : Bool). b || is_some (turn_said other (operated_by its))) has;
    }

-- a company has operated by an event that says so
now_has : (company : Company) (game : Game) (its : Event) → is_some (round_begun_by its) ≡ false
    → operated_by its ≡ Some company →
    has_operated (with_event game its).events company ≡ true
now_has company game its none says =
    one_more company game.events its none
    ∙ ap (λ (word : Option Company). has_operated game.events company || is_some (turn_said company word)) says
    ∙ ap (λ (b : Bool). has_operated game.events company || is_some (if b then Some company else None))
    (company_is_same company company refl)
    ∙ or-true (has_operated game.events company)

-- the turn is past its pay, or the trains of the company have earned something
abbrev has_done : Progress → Bool
has_done progress = not (is_unpaid progress) || not (progress.runs.revenue == 0)

-- then the company has operated
abbrev Has : Company → TurnState → Type 0
Has company turn = has_done turn.progress ≡ true → has_operated turn.game.events company ≡ true

-- PAY that is obeyed finds a revenue
some_revenue : (progress : Progress) → pay_judgement progress ≡ None → (progress.runs.revenue == 0) ≡ false
some_revenue progress kept =
    (or_parts (is_past_pay progress) (progress.runs.revenue == 0)
    (not_broken code_of_pay_rule (pay_rules progress) kept NothingToPay)).1

-- each step of a turn keeps it so
has_steps : (company : Company) → OfSteps company (λ (old new : TurnState). Has company old → Has company new)
has_steps company =
    let on = of_steps company (Operates company) (by_events company) in
    record {
      same = λ turn has. has;
      both = λ a b c one two has. two (one has);
      more = λ turn its is no_tile no_train no_phase has done. (on.more turn its is no_tile no_train no_phase).still
          company (has done);
      laid = λ turn lays asker lay cost rules has done. (on.laid turn lays asker lay cost rules).still company
          (has done);
      placed = λ turn asker at cost is rules has earned. (on.placed turn asker at cost is rules).still company
          (has (ap (λ (b : Bool). not (is_unpaid turn.progress) || b) earned
          ∙ or-true (not (is_unpaid turn.progress))));
      ran = λ turn progress revenue has done. now_has company turn.game (event.Runs company revenue) refl refl;
      paid = λ turn rules has done. (on.paid turn rules).still company
          (has (ap (λ (b : Bool). not (is_unpaid turn.progress) || not b)
          (some_revenue turn.progress rules)
          ∙ or-true (not (is_unpaid turn.progress))));
      kept = λ turn has done. (after_withheld company (Operates company) (by_events company) turn.game
          turn.progress.runs.revenue).still company
          (now_has company turn.game (event.Withheld company turn.progress.runs.revenue) refl refl);
      bought = λ turn kind from rules has done. (on.bought turn kind from rules).still company (has done);
    }

-- what the company has withheld by itself, where it was unpaid, is past its pay
withheld_is_paid : (company : Company) (turn : TurnState) → is_unpaid (withheld_if_unpaid company turn).progress ≡ false
withheld_is_paid company turn =
    elim (is_unpaid turn.progress) as (λ (b : Bool). is_unpaid turn.progress ≡ b →
    is_unpaid (if b then turn_state (withheld turn.game company turn.progress.runs.revenue)
    (pay_done turn.progress) else turn).progress ≡ false) [
      | true ↦ λ unpaid. refl
      | false ↦ λ past. past
    ]
    refl

-- after its turn the company has operated
has_at_end : (company : Company) (file : List ℕ) (round : Round) (old new : Game)
    → IsCompanyTurn file round company old new →
    has_operated new.events company ≡ true
has_at_end company file round old new turn =
    let last = withheld_if_unpaid company turn.last in
    (of_orders_end company (Operates company) (by_events company) (more_events company) file round last.game
    (president_of old.events company) new turn.after).still company
    (of_turn company _ (has_steps company) file round old new turn (λ none. cc)
    (ap (λ (b : Bool). not b || not (last.progress.runs.revenue == 0)) (withheld_is_paid company turn.last)))

-- and no other that had not before
pub company_operates : CompanyOperates
company_operates file round company old new turn other =
    let by = of_game_turn company (Operates company) (by_events company) (more_events company) file round old new
    turn in
    elim (same_company company other) as (λ (b : Bool). same_company company other ≡ b →
    has_operated new.events other ≡ (has_operated old.events other || b)) [
      | true ↦ λ same. subst (λ (c : Company). has_operated new.events c ≡ true) (company_is company other same)
          (has_at_end company file round old new turn) ∙ sym (or-true (has_operated old.events other))
      | false ↦ λ apart. by.others other apart ∙ sym (or-false (has_operated old.events other))
    ]
    refl
