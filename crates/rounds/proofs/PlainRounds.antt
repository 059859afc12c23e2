-- The lines of a sheet of version 1 are under no condition, and a kind of round of turns adds only
-- plain events by a line without one and by its close. Then the round adds only plain events.
use Rattle.std.proofs.Common.{◌≡◌, ℕ, ◌+◌, ◌&&◌, not, Bool, true, false, if◌then◌else◌, List, []}
use Rattle.std.proofs.Common.{◌∷◌, Option, Some, None, is_none, map, option_map, Result, Ok, Err}
use Rattle.std.proofs.Common.{unwrap_or, refl, sym, subst, ap, zero, suc, ◌==◌, ◌++◌, drop}
use Rattle.std.proofs.Common.{slice_set, arith}
use Rattle.std.specs.List.{AllByRecursion, list_all, range_with_len}
use Rattle.events.specs.declared.event.Event.{Event}
use Rattle.events.specs.declared.event.Event.TheVariants as event
use Rattle.events.specs.declared.ruling.Refusal.{Refusal}
use Rattle.events.specs.declared.ruling.Refusal.TheVariants as refusal
use Rattle.events.specs.declared.ruling.Ruling.{Ruling}
use Rattle.events.specs.declared.ruling.Ruling.TheVariants.{Refused}
use Rattle.events.specs.Event.{order_obeyed}
use Rattle.order_grammar.specs.declared.condition.Condition.{Condition}
use Rattle.order_grammar.specs.declared.condition.Version.TheVariants.{One}
use Rattle.order_grammar.specs.declared.fault.Fault.{Fault}
use Rattle.order_grammar.specs.declared.fault.Fault.TheVariants.{OutOfPlace}
use Rattle.order_grammar.specs.declared.order.Order.{Order}
use Rattle.rounds.proofs.Growing.{◌⨾◌, GrowsBy, by_one_event, stays, in_either}
use Rattle.operating.specs.CompanyOrders.{is_ruled_there}
use Rattle.rounds.specs.PlainLines.{FamilyAloneJudges, is_plain, is_ruled_plainly}
use Rattle.sheets.specs.CompanyOrders.{company_orders_for, company_orders_in, opens_orders_of}
use Rattle.sheets.specs.File.{sheet_of, version_of}
use Rattle.sheets.specs.Laws.{VersionOneIsPlain, plain, plain_parts}
use Rattle.sheets.specs.Part.{Numbered, Part, SheetParts, after_head, after_line, written_turns_of}
use Rattle.sheets.specs.Part.{opens_part, parts_for, lines_in_written_turns}
use Rattle.sheets.specs.Taken.{after_all_before, after_each, after_lines_before}
use Rattle.tables.specs.Seat.{seat_at}
use Rattle.tables.specs.declared.roster.Company.{Company}
use Rattle.tables.specs.declared.round.Round.{Round}
use Rattle.tables.specs.declared.seat.Seat.{Seat}
use Rattle.turns.specs.RoundOfTurns.{InTurn, in_turn, IsRoundOfTurns, RoundRules}
use Rattle.turns.specs.RoundOfTurns.{after_written_turn, after_lines, finished, left_from, opened}
use Rattle.turns.specs.RoundOfTurns.{turns_of}
use Rattle.turns.specs.Ruling.{after_ruling, done, judged, line_ruling, placed_ruling}
use Rattle.turns.specs.Ruling.{recorded, refusal_under, ruling_of}
use Rattle.totals.specs.LookBack.{Game}
use Rattle.tables.specs.Steps.{iterate}
use Rattle.tables.specs.Turns.{InPlay, after_turn, written_turns_at, next_written_turn}

-- a line without a condition is judged by its family alone
pub not_held : (there : Bool) → (there && not true) ≡ false
not_held true = refl
not_held false = refl

pub family_alone : FamilyAloneJudges
family_alone = record {
  turns = λ events judgement order. refl;
  companies = λ events order. not_held (is_ruled_there order);
  raises = λ by game sale. refl;
}

-- the list grows, and what is new is plain
abbrev pub GrowsPlain : List Event → List Event → Type 0
GrowsPlain old new = GrowsBy is_plain old new

-- a line is under no condition
abbrev pub IsPlain : Numbered → Type 0
IsPlain line = line.condition ≡ None

-- nor does each of these
abbrev pub ArePlain : List Numbered → Type 0
ArePlain lines = AllByRecursion IsPlain lines

-- nor does each line of these written turns or companies' orders
abbrev pub WrittenTurnsArePlain : List (List Numbered) → Type 0
WrittenTurnsArePlain written_turns = AllByRecursion ArePlain written_turns

-- nor does each line of a sheet
abbrev pub PartsArePlain : SheetParts → Type 0
PartsArePlain parts = ArePlain parts.before × WrittenTurnsArePlain (written_turns_of parts)

-- a line before parts
with_plain : (head : Bool) (line : Numbered) (parts : SheetParts) → IsPlain line → PartsArePlain parts →
    PartsArePlain (if head then after_head line parts else after_line line parts)
with_plain head line parts is others = grind arith

-- the parts of lines without conditions
parts_plain : (opens : Result Order Fault → Bool) (lines : List (List ℕ)) (count : ℕ) →
    PartsArePlain (plain_parts opens count lines)
parts_plain opens [] count = (tt, tt)
parts_plain opens (line ∷ lines) count =
    let first : Numbered = plain (count + 1) line in
    with_plain (opens first.reading) first (plain_parts opens (count + 1) lines) refl
    (parts_plain opens lines (count + 1))

-- each sheet for a round is so in a file of version 1
abbrev pub SheetsArePlain : List ℕ → Round → Type 0
SheetsArePlain file round = (seat : ℕ) → PartsArePlain (parts_for file round seat)

pub sheets_plain : VersionOneIsPlain → (file : List ℕ) (round : Round) → version_of file ≡ One →
    SheetsArePlain file round
sheets_plain law file round one seat =
    subst PartsArePlain (sym (law file round seat one))
    (parts_plain (opens_part round) (unwrap_or (sheet_of file seat round) []) 0)

-- the lines of one of two parts
either_plain : (test : Bool) (some others : List Numbered) → ArePlain some → ArePlain others →
    ArePlain (if test then some else others)
either_plain test some others first second = grind arith

-- a company's orders among these
orders_plain : (company : Company) (parts : List Part) → WrittenTurnsArePlain (map (λ part. part.lines) parts) →
    ArePlain (company_orders_in company parts)
orders_plain company [] are = tt
orders_plain company (part ∷ parts) are =
    either_plain (opens_orders_of company part.head.reading) part.lines (company_orders_in company parts) are.0
    (orders_plain company parts are.1)

-- and in a sheet
pub company_orders_plain : (file : List ℕ) (round : Round) → SheetsArePlain file round
    → (seat : ℕ) (company : Company) → ArePlain (company_orders_for file round seat company)
company_orders_plain file round sheets seat company =
    orders_plain company (parts_for file round seat).opened (sheets seat).1

-- what refuses an order, if anything does, is a rule of its family, and not that its condition does
-- not hold
abbrev pub IsOfFamily : Option Refusal → Type 0
IsOfFamily None = Unit {0}
IsOfFamily (Some refusal.Condition) = ⊥
IsOfFamily (Some other) = Unit {0}

-- so is a rule that bears such a name
pub of_mapped : {Rule : Type 0} (name : Rule → Refusal) → ((rule : Rule) → IsOfFamily (Some (name rule))) →
    (rule : Option Rule) → IsOfFamily (option_map name rule)
of_mapped name each rule = grind arith

-- an order without a condition that its family refuses is ruled plainly
pub refused_plain : (rule : Refusal) (condition : Option Condition) (order : Order) → condition ≡ None →
    IsOfFamily (Some rule) → is_ruled_plainly (Refused rule condition order) ≡ true
refused_plain refusal.Condition condition order is of = absurd of
refused_plain other condition order is of = ap (λ (its : Option Condition). is_none its && true) is

-- so is one that its family judges
judged_plain : (condition : Option Condition) (order : Order) (broken : Option Refusal) → condition ≡ None →
    IsOfFamily broken → is_ruled_plainly (judged condition order broken) ≡ true
judged_plain condition order broken is of = grind (arith, refused_plain)

-- whether it has a place or not
placed_plain : (has : Bool) (judgement : Order → Option Refusal) (condition : Option Condition) (order : Order) →
    condition ≡ None → ((its : Order) → IsOfFamily (judgement its)) →
    is_ruled_plainly (placed_ruling judgement condition (if has then Ok order else Err OutOfPlace)) ≡ true
placed_plain has judgement condition order is of = grind (arith, judged_plain)

-- a line by its reading
reading_plain : (has_place : Order → Bool) (judgement : Order → Option Refusal) (condition : Option Condition)
    (reading : Result Order Fault) → condition ≡ None → ((its : Order) → IsOfFamily (judgement its)) →
    is_ruled_plainly (ruling_of has_place judgement condition reading) ≡ true
reading_plain has_place judgement condition (Err fault) is of = refl
reading_plain has_place judgement condition (Ok order) is of =
    placed_plain (has_place order) judgement condition order is of

-- so is a line without one
pub ruling_plain : (has_place : Order → Bool) (judgement : Order → Option Refusal) (events : List Event)
    (line : Numbered) → IsPlain line → ((its : Order) → IsOfFamily (judgement its)) →
    is_ruled_plainly (line_ruling has_place judgement events line) ≡ true
ruling_plain has_place judgement events line is of =
    reading_plain has_place (refusal_under events line.condition judgement) line.condition line.reading is
    (λ its. subst (λ (condition : Option Condition). IsOfFamily (refusal_under events condition judgement its)) (sym is)
    (of its))

-- such a ruling is plain
pub recorded_plain : (seat : Seat) (number : ℕ) (ruling : Ruling) (events : List Event) →
    is_ruled_plainly ruling ≡ true →
    GrowsPlain events (recorded seat number ruling events)
recorded_plain seat number ruling events is = by_one_event events (event.Ruled seat number ruling) is

module _ {TurnActions : Type 0} (act : InTurn TurnActions → Order → InTurn TurnActions)
    (acts : (turn : InTurn TurnActions) (order : Order) → GrowsPlain turn.events (act turn order).events) where
  -- what follows from an order that is done, if there is one
  done_plain : (turn : InTurn TurnActions) (found : Option Order) → GrowsPlain turn.events (done act turn found).events
  done_plain turn None = stays
  done_plain turn (Some order) = acts turn order

  -- in a turn, after a line without a condition
  pub ruled_plain : (seat : Seat) (turn : InTurn TurnActions) (number : ℕ) (ruling : Ruling)
      → is_ruled_plainly ruling ≡ true →
      GrowsPlain turn.events (after_ruling act seat turn number ruling).events
  ruled_plain seat turn number ruling is =
      let ruled : List Event = recorded seat number ruling turn.events in
      recorded_plain seat number ruling turn.events is ⨾ done_plain (in_turn ruled turn.actions)
      (order_obeyed ruling)

module _ (step : Seat → List Event → Numbered → List Event)
    (adds : (seat : Seat) (events : List Event) (line : Numbered) → IsPlain line →
    GrowsPlain events (step seat events line)) where
  -- after the standing lines of a seat
  before_plain : (seat : Seat) (events : List Event) (lines : List Numbered) → ArePlain lines →
      GrowsPlain events (after_each (step seat) events lines)
  before_plain seat events [] are = stays
  before_plain seat events (line ∷ lines) are =
      adds seat events line are.0 ⨾ before_plain seat (step seat events line) lines are.1

  -- and of seats
  pub standing_plain : (file : List ℕ) (round : Round) → SheetsArePlain file round →
      (events : List Event) (seats : List ℕ) →
      GrowsPlain events (after_all_before step file round events seats)
  standing_plain file round sheets events [] = stays
  standing_plain file round sheets events (seat ∷ seats) =
      before_plain (seat_at seat) events (parts_for file round seat).before (sheets seat).0
      ⨾ standing_plain file round sheets (after_lines_before step file round events seat) seats

-- no written turn of any seat has a condition
abbrev AllArePlain : List (List (List Numbered)) → Type 0
AllArePlain written_turns = AllByRecursion WrittenTurnsArePlain written_turns

-- so none of one seat's
at_plain : (written_turns : List (List (List Numbered))) (seat : ℕ) → AllArePlain written_turns →
    WrittenTurnsArePlain (written_turns_at written_turns seat)
at_plain [] seat are = tt
at_plain (its ∷ written_turns) zero are = are.0
at_plain (its ∷ written_turns) (suc seat) are = at_plain written_turns seat are.1

-- nor the next of them
next_plain : (written_turns : List (List Numbered)) → WrittenTurnsArePlain written_turns → ArePlain (next_written_turn written_turns)
next_plain written_turns are = grind arith

-- nor those that follow
later_plain : (written_turns : List (List Numbered)) → WrittenTurnsArePlain written_turns → WrittenTurnsArePlain (drop 1 written_turns)
later_plain written_turns are = grind arith

-- nor any where those of one seat are others
set_plain : (written_turns : List (List (List Numbered))) (seat : ℕ) (new : List (List Numbered)) → AllArePlain written_turns →
    WrittenTurnsArePlain new →
    AllArePlain (slice_set written_turns seat new)
set_plain [] seat new are is = tt
set_plain (its ∷ written_turns) zero new are is = (is, are.1)
set_plain (its ∷ written_turns) (suc seat) new are is = (are.0, set_plain written_turns seat new are.1 is)

-- nor any of these seats at first
first_plain : (file : List ℕ) (round : Round) → SheetsArePlain file round → (seats : List ℕ) →
    AllArePlain (map (λ seat. written_turns_of (parts_for file round seat)) seats)
first_plain file round sheets [] = tt
first_plain file round sheets (seat ∷ seats) = ((sheets seat).1, first_plain file round sheets seats)

-- a count of lines that were left is plain
count_plain : (seat : Seat) (count : ℕ) (none : Bool) (events : List Event) → list_all is_plain events ≡ true →
    list_all is_plain (if none then events else event.Left seat count ∷ events) ≡ true
count_plain seat count none events are = grind arith

-- so are those of seats
left_plain : (seat : ℕ) (written_turns : List (List (List Numbered))) → list_all is_plain (left_from seat written_turns) ≡ true
left_plain seat [] = refl
left_plain seat (its ∷ written_turns) =
    let count : ℕ = lines_in_written_turns its in
    count_plain (seat_at seat) count (count == 0) (left_from (seat + 1) written_turns) (left_plain (seat + 1) written_turns)

-- what is to be shown of a kind of round: a line without a condition adds but plain events, and so
-- does the close
pub record AddsPlain {TurnActions : Type 0} (rules : RoundRules TurnActions) : Type 0 where
  pub standing : (seat : Seat) (events : List Event) (line : Numbered) → IsPlain line →
      GrowsPlain events (rules.standing seat events line)
  pub line : (seats : ℕ) (seat : Seat) (turn : InTurn TurnActions) (line : Numbered) → IsPlain line →
      GrowsPlain turn.events (rules.line seats seat turn line).events
  pub closed : (seats : ℕ) (events : List Event) → GrowsPlain events (rules.closed seats events)

module _ {TurnActions : Type 0} (rules : RoundRules TurnActions) (adds : AddsPlain rules) where
  -- the lines of a turn
  by_lines : (seats : ℕ) (seat : Seat) (turn : InTurn TurnActions) (lines : List Numbered) → ArePlain lines →
      GrowsPlain turn.events (after_lines rules seats seat turn lines).events
  by_lines seats seat turn [] are = stays
  by_lines seats seat turn (line ∷ lines) are =
      adds.line seats seat turn line are.0 ⨾ by_lines seats seat (rules.line seats seat turn line)
      lines are.1

  -- a turn
  by_turn : (seats : ℕ) (at : InPlay (List Event) Numbered) → AllArePlain at.written_turns →
      GrowsPlain at.now (after_turn (turns_of rules seats) at).now
  by_turn seats at are =
      let seat : Seat = seat_at at.seat in
      let lines : List Numbered = next_written_turn (written_turns_at at.written_turns at.seat) in
      let turn : InTurn TurnActions = after_written_turn rules seats seat at.now lines in
      by_lines seats seat (in_turn at.now rules.nothing) lines
      (next_plain (written_turns_at at.written_turns at.seat) (at_plain at.written_turns at.seat
      are))
      ⨾ in_either (rules.has_acted turn.actions) stays (by_one_event turn.events (event.Passes seat)
      refl)

  -- the written turns that are left after some turns have no condition
  left_so_far : (seats n : ℕ) (start : InPlay (List Event) Numbered) → AllArePlain start.written_turns →
      AllArePlain (iterate (after_turn (turns_of rules seats)) n start).written_turns
  left_so_far seats zero start are = are
  left_so_far seats (suc n) start are =
      let at : InPlay (List Event) Numbered = iterate (after_turn (turns_of rules seats)) n start in
      let here : AllArePlain at.written_turns = left_so_far seats n start are in
      set_plain at.written_turns at.seat (drop 1 (written_turns_at at.written_turns at.seat)) here
      (later_plain (written_turns_at at.written_turns at.seat) (at_plain at.written_turns at.seat here))

  -- some turns
  by_turns : (seats n : ℕ) (start : InPlay (List Event) Numbered) → AllArePlain start.written_turns →
      GrowsPlain start.now (iterate (after_turn (turns_of rules seats)) n start).now
  by_turns seats zero start are = stays
  by_turns seats (suc n) start are =
      by_turns seats n start are
      ⨾ by_turn seats (iterate (after_turn (turns_of rules seats)) n start) (left_so_far seats n
      start are)

  -- the whole round
  pub by_round : (file : List ℕ) (round : Round) (old new : Game) → SheetsArePlain file round →
      IsRoundOfTurns rules file round old new →
      GrowsPlain (old.events ++ event.Round round ∷ []) new.events
  by_round file round old new sheets played =
      let begun : List Event = old.events ++ event.Round round ∷ [] in
      let start : InPlay (List Event) Numbered = opened rules old.seats file round old.events in
      let last : InPlay (List Event) Numbered = played.last in
      let shut : List Event = rules.closed old.seats last.now in
      let turned : GrowsPlain start.now last.now =
      subst (λ (at : InPlay (List Event) Numbered). GrowsPlain start.now at.now) played.turns.reached
      (by_turns old.seats played.turns.steps start (first_plain file round sheets (range_with_len 0 old.seats))) in
      let left : GrowsPlain shut (finished rules old.seats last) =
      record { more = _; longer = refl; aside = left_plain 0 last.written_turns } in
      subst (λ (game : Game). GrowsPlain begun game.events) (sym played.after)
      (standing_plain rules.standing adds.standing file round sheets begun (range_with_len 0
      old.seats)
      ⨾ turned ⨾ adds.closed old.seats last.now ⨾ left)
