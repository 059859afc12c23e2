-- From the head of a turn that is told to the report of the file with a line at that head.
use Rattle.std.proofs.Common.{◌≡◌, ℕ, zero, suc, ◌<◌, ◌≤◌, true, false, List, [], ◌∷◌, ◌++◌, length}
use Rattle.std.proofs.Common.{Option, Result, Ok, Err, IsOk, append_assoc, append-nil, sym, ap, subst, ◌∙◌}
use Rattle.std.proofs.Common.{inl, inr, rules, codes}
use Rattle.std.specs.Prelude.{unwrap_or}
use Rattle.std.proofs.lemmas.Bool.{cases_lt}
use Rattle.std.proofs.lemmas.List.{map-append}
use Rattle.desk_promise.proofs.FirstTurn.{first_turn_stands}
use Rattle.desk_promise.proofs.GameBefore.{IsPosted, after_round, is_posted, now_posted, one_more, played_before, seats_kept}
use Rattle.desk_promise.proofs.LineFiles.{has_sheets}
use Rattle.desk_promise.proofs.Longer.{◌⨾◌, GoesOn}
use Rattle.desk_promise.proofs.Names.{ReadWhereSpelt}
use Rattle.desk_promise.proofs.ReportText.{passes_of, reported_first}
use Rattle.desk_promise.proofs.SheetHead.{SpellingIsRead}
use Rattle.desk_promise.proofs.TurnSheets.{OneIsPlain, ReadAgain, line_at, one_turn, turn_lines_fit}
use Rattle.desk_promise.specs.LineFile.{HasSheets, IsEnded, IsOfTurns, HasTurns, line_file, turn_of_one}
use Rattle.desk_promise.specs.Reported.{IsReportedFirst}
use Rattle.events.specs.declared.event.Event.{Event}
use Rattle.events.specs.declared.event.Event.TheVariants as event
use Rattle.events.specs.declared.ruling.Ruling.{Ruling}
use Rattle.foresight.specs.FirstTurn.{IsTheirTurn, after_passes, begun_for, seat_after}
use Rattle.foresight.specs.Reached.{HeadsAreReached, IsAlone}
use Rattle.order_grammar.specs.Spells.{is_round_of_line}
use Rattle.order_grammar.specs.Version.{reading_in}
use Rattle.order_grammar.specs.declared.condition.Version.{Version}
use Rattle.order_grammar.specs.declared.order.Order.TheVariants.{Play}
use Rattle.order_grammar.specs.declared.play.PlayOrder.{PlayOrder}
use Rattle.report.specs.Report.{IsGameReport, IsReport, IsReportOf}
use Rattle.rounds.proofs.Coming.{comes_once}
use Rattle.rounds.proofs.OneGame.{OneOpeningRound, OneStockRound, on_the_way}
use Rattle.rounds.specs.Begun.{RoundsOnlyAdd}
use Rattle.rounds.specs.OperatingRound.{OneOperatingRound}
use Rattle.rounds.specs.Play.{AreRounds, Between, IsPlayed, IsRound, Plays, before_play, end_of, goes_on}
use Rattle.rounds.specs.ReadAlike.{SameSheetsAreReadAlike}
use Rattle.rounds.specs.declared.following.Next.TheVariants as next
use Rattle.sheets.specs.File.{Content, IsAccepted, all_posted, content_of, players_of, sheet_of, version_of}
use Rattle.sheets.specs.Laws.{ThreeToSixPlay}
use Rattle.sheets.specs.Part.{Numbered, SheetParts, numbered, parts_for, parts_of_sheet, written_turns_of}
use Rattle.sheets.specs.Taken.{after_each, after_lines_before}
use Rattle.sheets.specs.declared.fault.FileFault.{FileFault}
use Rattle.tables.specs.Seat.{seat_at}
use Rattle.tables.specs.declared.round.Round.{Round}
use Rattle.tables.specs.declared.seat.Seat.{Seat}
use Rattle.totals.specs.LookBack.{Game, priority_of}
use Rattle.turns.specs.Acted.{TurnsSayWhoActed}
use Rattle.turns.specs.RoundOfTurns.{IsRoundOfTurns, RoundRules, in_turn}
use Rattle.turns.specs.Ruling.{recorded}

-- the report of a file that is not refused is that of its game
pub of_accepted : (file text : List ℕ) (said : Result Content FileFault) → IsOk said → IsReportOf file said text
    → IsGameReport file text
of_accepted file text (Ok content) ok report = report
of_accepted file text (Err fault) ok report = absurd (search rules)

-- the seats that pass
abbrev passing_of : ℕ → Seat → ℕ → List Seat
passing_of seats first zero = []
passing_of seats first (suc count) = passing_of seats first count ++ seat_after seats first count ∷ []

-- that they pass is added to the list
passes_added : (seats : ℕ) (first : Seat) (events : List Event) (count : ℕ)
    → after_passes seats first events count ≡ events ++ passes_of (passing_of seats first count)
passes_added seats first events zero = sym (append-nil events)
passes_added seats first events (suc count) =
    let pass : Seat → Event = λ (seat : Seat). event.Passes seat in
    ap (λ (list : List Event). list ++ event.Passes (seat_after seats first count) ∷ []) (passes_added seats first events count)
    ∙ append_assoc events (passes_of (passing_of seats first count)) (event.Passes (seat_after seats first count) ∷ [])
    ∙ ap (λ (list : List Event). events ++ list)
    (sym (map-append pass (passing_of seats first count) (seat_after seats first count ∷ [])))

-- of a sheet without lines there are no parts
no_parts : (version : Version) (round : Round) (sheet : Option (List (List ℕ))) → unwrap_or sheet [] ≡ []
    → parts_of_sheet version round (unwrap_or sheet []) ≡ record { before = []; opened = [] }
no_parts version round sheet none = ap (parts_of_sheet version round) none

-- nobody else has a line
pub alone : (file new : List ℕ) (round : Round) (seat : Seat) (lines : List (List ℕ)) → HasSheets file new round seat lines
    → IsAlone new round seat
alone file new round seat lines has other apart =
    no_parts (version_of new) round (sheet_of new other round)
    (elim (cases_lt other (length (players_of file))) [
      | inl within ↦ ap (λ (sheet : Option (List (List ℕ))). unwrap_or sheet []) (has.others other within apart)
      | inr past ↦ ap (λ (sheet : Option (List (List ℕ))). unwrap_or sheet []) (has.no_more other round past)
    ])

module _ (spelt : ReadWhereSpelt) (is_read : SpellingIsRead) (again : ReadAgain) (plain : OneIsPlain) (file : List ℕ)
    (accepted : IsAccepted file) (end : IsEnded file) (round : Round) (turns : HasTurns round)
    (its : is_round_of_line round ≡ true) (seat : Seat) (own : seat.0 < length (players_of file)) (order : PlayOrder)
    (fit : IsOfTurns order) (also : IsAccepted (line_file file round seat (turn_of_one order))) where
  abbrev new : List ℕ
  new = line_file file round seat (turn_of_one order)

  has : HasSheets file new round seat (turn_of_one order)
  has = has_sheets spelt is_read file accepted end round its seat own (turn_of_one order)
      (turn_lines_fit spelt is_read order fit) also

  -- the head of the turn
  abbrev turn_head : Numbered
  turn_head = numbered 1 (reading_in (version_of new) (codes "TURN"))

  -- the seat has the turn, and no standing lines
  own_parts : parts_for new round seat.0 ≡ record {
    before = [];
    opened = record { head = turn_head; lines = line_at 2 (Play order) ∷ [] } ∷ [];
  }
  own_parts =
      ap (λ (sheet : Option (List (List ℕ))). parts_of_sheet (version_of new) round (unwrap_or sheet [])) has.own
      ∙ one_turn is_read again plain (version_of new) round order turns fit

  -- so nothing is ruled before the turns
  pub no_standing_lines : (step : Seat → List Event → Numbered → List Event) (events : List Event)
      → after_lines_before step new round events seat.0 ≡ events
  no_standing_lines step events =
      ap (λ (parts : SheetParts). after_each (step (seat_at seat.0)) events parts.before) own_parts

  module _ (alike : SameSheetsAreReadAlike) (adds : RoundsOnlyAdd) (players : ThreeToSixPlay) (one_opening : OneOpeningRound)
      (one_stock : OneStockRound) (one_operating : OneOperatingRound) (last : Between) (plays : Plays file last)
      (comes : last.next ≡ next.Round round) where
    posted : IsPosted file new round
    posted = is_posted file new round seat (turn_of_one order) has

    -- the round was not played
    awaited : all_posted file round ≡ false
    awaited = ap (goes_on file) (sym comes) ∙ plays.stopped

    -- as many play as before
    same_seats : last.game.seats ≡ length (players_of file)
    same_seats = seats_kept adds file plays.rounds (before_play file) last plays.reached

    at_table : seat.0 < last.game.seats
    at_table = subst (λ (seats : ℕ). seat.0 < seats) (sym same_seats) own

    few_seats : last.game.seats ≤ 6
    few_seats = subst (λ (seats : ℕ). seats ≤ 6) (sym same_seats) (players file accepted).1

    module _ {TurnActions : Type 0} (rules : RoundRules TurnActions) (say : TurnsSayWhoActed rules)
        (by_close : (seats : ℕ) (events : List Event) → GoesOn events (rules.closed seats events))
        (reached : HeadsAreReached rules) (before : List Event)
        (their : IsTheirTurn last.game.seats (priority_of last.game.seats last.game.events) seat
        (last.game.events ++ event.Round round ∷ []) before)
        (on : rules.over (begun_for rules new round seat last.game.events) ≡ false) (still : rules.over before ≡ false)
        (ruling : Ruling) (moved : List Event)
        (ruled : GoesOn (recorded seat 2 ruling before ++ moved)
        (rules.line last.game.seats seat (in_turn before rules.nothing) (line_at 2 (Play order))).events)
        (game : Game) (played : IsRoundOfTurns rules new round last.game game) (kind : IsPlayed new round last.game game) where
      -- the list at the end of the round goes on after the ruling
      stands : GoesOn (recorded seat 2 ruling before ++ moved) game.events
      stands =
          ruled
          ⨾ first_turn_stands rules say by_close new round seat (line_at 2 (Play order)) last.game game before their.count
          at_table (ap written_turns_of own_parts) their.few still
          (reached new round seat last.game before few_seats at_table (alone file new round seat (turn_of_one order) has)
          (ap (λ (parts : SheetParts). parts.before) own_parts) on their)
          played

      abbrev passing : List Seat
      passing = passing_of last.game.seats (priority_of last.game.seats last.game.events) their.count

      -- it has the round, the passes, the ruling and what moves after what was there
      events_then : game.events
          ≡ last.game.events
          ++ (event.Round round ∷ (passes_of passing ++ (event.Ruled seat 2 ruling ∷ (moved ++ stands.more))))
      events_then =
          let begun : List Event = last.game.events ++ event.Round round ∷ [] in
          let rest : List Event = moved ++ stands.more in
          stands.longer
          ∙ append_assoc (recorded seat 2 ruling before) moved stands.more
          ∙ append_assoc before (event.Ruled seat 2 ruling ∷ []) rest
          ∙ ap (λ (list : List Event). list ++ (event.Ruled seat 2 ruling ∷ rest))
          (their.passed ∙ passes_added last.game.seats (priority_of last.game.seats last.game.events) begun their.count)
          ∙ append_assoc begun (passes_of passing) (event.Ruled seat 2 ruling ∷ rest)
          ∙ append_assoc last.game.events (event.Round round ∷ [])
          (passes_of passing ++ (event.Ruled seat 2 ruling ∷ rest))

      pub turn_reported : (text : List ℕ) → IsReport new text → IsReportedFirst new text last.game round seat 2 ruling moved
      turn_reported text report =
          let whole = of_accepted new text (content_of new) also report in
          let mid = after_round round last game in
          let step : IsRound new last mid =
          one_more new round last game comes (now_posted alike file new round posted) kind in
          let before_new : AreRounds new plays.rounds (before_play new) last =
          played_before alike file new round posted awaited plays.rounds last plays.reached in
          let later = on_the_way one_opening one_stock one_operating new (suc plays.rounds) whole.game.rounds (before_play new)
          mid whole.last (last, before_new, step) whole.game.reached whole.game.stopped in
          subst (λ (t : List ℕ). IsReportedFirst new t last.game round seat 2 ruling moved) (sym whole.is)
          (reported_first adds new last mid whole.last step later.0 later.1 round
          (comes_once step.round round (sym step.comes ∙ comes)) (end_of whole.last.next whole.last.game.events)
          passing seat 2 ruling moved stands.more events_then)
