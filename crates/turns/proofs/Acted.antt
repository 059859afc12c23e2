-- The new events of a turn say who acted in it, if those of each line do.
use Rattle.std.proofs.Common.{◌≡◌, ℕ, zero, suc, Bool, true, false, ◌||◌, if◌then◌else◌, List, [], ◌∷◌, ◌++◌, Option}
use Rattle.std.proofs.Common.{Some, None, append-nil, refl, sym, subst, ap, ◌∙◌}
use Rattle.std.specs.Option.{option_or}
use Rattle.std.proofs.lemmas.List.{append_assoc}
use Rattle.std.proofs.Math.Bool.{or_assoc, or-false}
use Rattle.events.specs.Event.{actor_of, order_obeyed}
use Rattle.events.specs.declared.event.Event.{Event}
use Rattle.events.specs.declared.event.Event.TheVariants as event
use Rattle.events.specs.declared.ruling.Ruling.{Ruling}
use Rattle.events.specs.declared.ruling.Ruling.TheVariants.{Obeyed}
use Rattle.totals.specs.LookBack.{last_said}
use Rattle.sheets.specs.Part.{Numbered}
use Rattle.tables.specs.Steps.{iterate}
use Rattle.tables.specs.declared.seat.Seat.{Seat}
use Rattle.turns.specs.Acted.{SaysWhoActed, TurnsSayWhoActed}
use Rattle.turns.specs.RoundOfTurns.{InTurn, RoundRules, after_lines, in_turn}
use Rattle.turns.specs.Ruling.{recorded}
use Rattle.totals.proofs.EventAtEnd.{option_or_assoc, option_or_none}

-- what two lists say last, one after the other
said_in_both : {A : Type 0} (says : Event → Option A) (prefix back : List Event) →
    last_said says (prefix ++ back) ≡ option_or (last_said says back) (last_said says prefix)
said_in_both says [] back = sym (option_or_none (last_said says back))
said_in_both {A} says (event ∷ prefix) back =
    ap (λ (later : Option A). option_or later (says event)) (said_in_both says prefix back)
    ∙ option_or_assoc (last_said says back) (last_said says prefix) (says event)

-- the seat acted in the one or the other
in_one_of_both : (seat : Seat) (first second : Bool) →
    option_or (if second then Some seat else None) (if first then Some seat else None)
    ≡ (if first || second then Some seat else None)
in_one_of_both seat true true = refl
in_one_of_both seat true false = refl
in_one_of_both seat false true = refl
in_one_of_both seat false false = refl

-- a list that stays as it is says that nobody acted
pub nobody : (seat : Seat) (events : List Event) → SaysWhoActed seat false events events
nobody seat events = record { more = []; longer = sym (append-nil events); last = refl }

-- by one more event
pub one_more : (seat : Seat) (acted : Bool) (events : List Event) (event : Event)
    → actor_of event ≡ (if acted then Some seat else None) →
    SaysWhoActed seat acted events (events ++ event ∷ [])
one_more seat acted events event says = record { more = event ∷ []; longer = refl; last = says }

-- a list that goes on, and then on
pub in_both : (seat : Seat) (first second : Bool) (a b c : List Event) → SaysWhoActed seat first a b
    → SaysWhoActed seat second b c →
    SaysWhoActed seat (first || second) a c
in_both seat first second a b c before after =
    record {
      more = before.more ++ after.more;
      longer = after.longer ∙ ap (λ (list : List Event). list ++ after.more) before.longer
          ∙ append_assoc a before.more after.more;
      last =
          said_in_both actor_of before.more after.more
          ∙ ap (λ (later : Option Seat). option_or later (last_said actor_of before.more)) after.last
          ∙ ap (λ (earlier : Option Seat). option_or (if second then Some seat else None) earlier) before.last
          ∙ in_one_of_both seat first second;
    }

-- nor do steps in none of which anybody acted
pub nobody_in_steps : (seat : Seat) (step : List Event → List Event)
    → ((events : List Event) → SaysWhoActed seat false events (step events)) →
    (n : ℕ) (events : List Event) → SaysWhoActed seat false events (iterate step n events)
nobody_in_steps seat step each zero events = nobody seat events
nobody_in_steps seat step each (suc n) events =
    in_both seat false false events (iterate step n events) (step (iterate step n events))
    (nobody_in_steps seat step each n events) (each (iterate step n events))

-- either of two lists
pub in_either : (seat : Seat) (acted : Bool) (old one other : List Event) (b : Bool)
    → SaysWhoActed seat acted old one →
    SaysWhoActed seat acted old other → SaysWhoActed seat acted old (if b then one else other)
in_either seat acted old one other true first second = first
in_either seat acted old one other false first second = second

-- a line of a turn says who acted in it, and the turn has it too
pub record LineSaysWhoActed {TurnActions : Type 0} (rules : RoundRules TurnActions) (seat : Seat)
    (old new : InTurn TurnActions) : Type 0 where
  pub acts : Bool
  pub says_who : SaysWhoActed seat acts old.events new.events
  pub acted : rules.has_acted new.actions ≡ (rules.has_acted old.actions || acts)

module _ {TurnActions : Type 0} (rules : RoundRules TurnActions) (seats : ℕ) (seat : Seat)
    (line_says : (turn : InTurn TurnActions) (line : Numbered)
    → LineSaysWhoActed rules seat turn (rules.line seats seat turn line)) where
  -- so do some lines
  lines_say : (turn : InTurn TurnActions) (lines : List Numbered)
      → LineSaysWhoActed rules seat turn (after_lines rules seats seat turn lines)
  lines_say turn [] = record {
    acts = false;
    says_who = nobody seat turn.events;
    acted =
        sym (or-false (rules.has_acted turn.actions));
  }
  lines_say turn (line ∷ lines) =
      let next : InTurn TurnActions = rules.line seats seat turn line in
      let last : InTurn TurnActions = after_lines rules seats seat next lines in
      let here = line_says turn line in
      let rest = lines_say next lines in
      record {
        acts = here.acts || rest.acts;
        says_who = in_both seat here.acts rest.acts turn.events next.events last.events here.says_who rest.says_who;
        acted = rest.acted ∙ ap (λ (b : Bool). b || rest.acts) here.acted
            ∙ or_assoc (rules.has_acted turn.actions) here.acts rest.acts;
      }

  -- so does a turn, at the start of which the seat has not acted
  written_turn_says : rules.has_acted rules.nothing ≡ false → (events : List Event) (lines : List Numbered) →
      SaysWhoActed seat (rules.has_acted (after_lines rules seats seat (in_turn events rules.nothing) lines).actions)
      events (after_lines rules seats seat (in_turn events rules.nothing) lines).events
  written_turn_says idle events lines =
      let all = lines_say (in_turn events rules.nothing) lines in
      let acted : all.acts ≡ rules.has_acted (after_lines rules seats seat (in_turn events rules.nothing)
      lines).actions =
      sym (all.acted ∙ ap (λ (b : Bool). b || all.acts) idle)
      in
      subst (λ (b : Bool). SaysWhoActed seat b events
      (after_lines rules seats seat (in_turn events rules.nothing) lines).events) acted all.says_who

-- a ruling by which no order is done names nobody
pub nobody_ruled : {TurnActions : Type 0} (rules : RoundRules TurnActions) (seat : Seat) (turn : InTurn TurnActions)
    (number : ℕ) (ruling : Ruling) →
    order_obeyed ruling ≡ None → LineSaysWhoActed rules seat turn (in_turn (recorded seat number ruling turn.events) turn.actions)
nobody_ruled rules seat turn number (Obeyed condition order) none = absurd (cc)
nobody_ruled rules seat turn number other none =
    record {
      acts = false;
      says_who = one_more seat false turn.events (event.Ruled seat number other) refl;
      acted =
          sym (or-false (rules.has_acted turn.actions));
    }

-- so each turn of a round says it
pub turns_say : {TurnActions : Type 0} (rules : RoundRules TurnActions) → rules.has_acted rules.nothing ≡ false →
    ((seats : ℕ) (seat : Seat) (turn : InTurn TurnActions) (line : Numbered)
    → LineSaysWhoActed rules seat turn (rules.line seats seat turn line)) →
    TurnsSayWhoActed rules
turns_say rules idle line_says seats seat events lines =
    written_turn_says rules seats seat (line_says seats seat) idle events lines
