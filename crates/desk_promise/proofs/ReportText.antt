-- The report of a game goes on with the text of each round, and in it with the line of each event.
use Rattle.std.proofs.Common.{◌≡◌, ℕ, zero, suc, List, [], ◌∷◌, ◌++◌, map}
use Rattle.std.proofs.Common.{append-nil, append_assoc, refl, sym, ap, ◌∙◌}
use Rattle.std.specs.List.{flat_map}
use Rattle.std.proofs.lemmas.Grind.{flat_map-append}
use Rattle.std.proofs.lemmas.List.{append_cancel_left}
use Rattle.std.proofs.lemmas.List.Folds.{flat_map-map}
use Rattle.desk_promise.specs.Reported.{IsReportedFirst, IsReportedNext, pass_line}
use Rattle.events.specs.declared.event.Event.{Event}
use Rattle.events.specs.declared.event.Event.TheVariants as event
use Rattle.events.specs.declared.ruling.Ruling.{Ruling}
use Rattle.report.proofs.LastRound.{begins_last, grows_by_last}
use Rattle.report.specs.Line.{event_line, ruled_line}
use Rattle.report.specs.Parts.{last_round, last_round_text}
use Rattle.report.specs.Report.{end_text, header, report_text, rounds_text, unread_lines}
use Rattle.report.specs.Statement.{statement}
use Rattle.rounds.specs.Begun.{RoundsOnlyAdd}
use Rattle.rounds.specs.Play.{AreRounds, Between, IsRound}
use Rattle.rounds.specs.declared.game.End.{End}
use Rattle.sheets.specs.File.{unread_of}
use Rattle.tables.specs.declared.round.Round.{Round}
use Rattle.tables.specs.declared.seat.Seat.{Seat}
use Rattle.totals.specs.LookBack.{Game}

-- a text begins with another
pub record TextGoesOn (old new : List ℕ) : Type 0 where
  pub rest : List ℕ
  pub is : new ≡ old ++ rest

-- a game of this many seats
abbrev pub of_seats : ℕ → List Event → Game
of_seats seats events = record { seats = seats; events = events }

-- the text of the rounds goes on with each round
by_round : RoundsOnlyAdd → (file : List ℕ) (old new : Between) → IsRound file old new
    → TextGoesOn (rounds_text file old.game) (rounds_text file new.game)
by_round adds file old new played =
    let added = adds file old new played in
    record {
      rest = last_round_text file old.game.seats (old.game.events ++ event.Round played.round ∷ added.more);
      is = ap (rounds_text file) added.added
          ∙ grows_by_last file old.game.seats old.game.events added.more (event.Round played.round) refl added.no_round;
    }

pub by_rounds : RoundsOnlyAdd → (file : List ℕ) (count : ℕ) (old new : Between) → AreRounds file count old new
    → TextGoesOn (rounds_text file old.game) (rounds_text file new.game)
by_rounds adds file zero old new played =
    record {
      rest = [];
      is = ap (λ (there : Between). rounds_text file there.game) (sym played) ∙ sym (append-nil (rounds_text file old.game));
    }
by_rounds adds file (suc count) old new played =
    let before = by_rounds adds file count old played.0 played.1 in
    let last = by_round adds file played.0 new played.2 in
    record {
      rest = before.rest ++ last.rest;
      is = last.is ∙ ap (λ (text : List ℕ). text ++ last.rest) before.is
          ∙ append_assoc (rounds_text file old.game) before.rest last.rest;
    }

-- the text of the round that began last
last_text : (file : List ℕ) (seats : ℕ) (old more : List Event) (its : Event)
    → last_round_text file seats (old ++ its ∷ more)
    ≡ flat_map (event_line file) (last_round (old ++ its ∷ more)) ++ statement file (of_seats seats (old ++ its ∷ more))
last_text file seats [] more its = refl
last_text file seats (first ∷ old) more its = refl

-- that some seats pass
abbrev pub passes_of : List Seat → List Event
passes_of passing = map (λ (seat : Seat). event.Passes seat) passing

-- the lines of a round in which some seats pass, and a line is ruled
lines_of_ruling : (file : List ℕ) (round : Round) (passing : List Seat) (seat : Seat) (number : ℕ) (ruling : Ruling)
    (later : List Event)
    → flat_map (event_line file) (event.Round round ∷ (passes_of passing ++ (event.Ruled seat number ruling ∷ later)))
    ≡ event_line file (event.Round round) ++ (flat_map (pass_line file) passing
    ++ (ruled_line file seat number ruling ++ flat_map (event_line file) later))
lines_of_ruling file round passing seat number ruling later =
    ap (λ (text : List ℕ). event_line file (event.Round round) ++ text)
    (flat_map-append (event_line file) (passes_of passing) (event.Ruled seat number ruling ∷ later)
    ∙ ap (λ (text : List ℕ). text ++ flat_map (event_line file) (event.Ruled seat number ruling ∷ later))
    (flat_map-map (event_line file) (λ (seat : Seat). event.Passes seat) passing))

-- three texts before a fourth
three_before : (a b c d : List ℕ) → (a ++ (b ++ c)) ++ d ≡ a ++ (b ++ (c ++ d))
three_before a b c d = append_assoc a (b ++ c) d ∙ ap (λ (text : List ℕ). a ++ text) (append_assoc b c d)

module _ (adds : RoundsOnlyAdd) (file : List ℕ) (old mid last : Between) (played : IsRound file old mid) (count : ℕ)
    (others : AreRounds file count mid last) (round : Round) (its : played.round ≡ round) (end : End) where
  module _ (in_round : List Event)
      (events : mid.game.events ≡ old.game.events ++ (event.Round round ∷ in_round)) where
    -- what the round added are these events
    added_so : event.Round played.round ∷ (adds file old mid played).more ≡ event.Round round ∷ in_round
    added_so =
        append_cancel_left old.game.events (event.Round played.round ∷ (adds file old mid played).more)
        (event.Round round ∷ in_round)
        (sym (ap (λ (game : Game). game.events) (adds file old mid played).added) ∙ events)

    -- the statement at its end
    abbrev statement_then : List ℕ
    statement_then = statement file (of_seats old.game.seats (old.game.events ++ event.Round round ∷ in_round))

    -- so they are the lines of its text
    text_of_round_so : rounds_text file mid.game
        ≡ rounds_text file old.game ++ (flat_map (event_line file) (event.Round round ∷ in_round) ++ statement_then)
    text_of_round_so =
        let added = adds file old mid played in
        let first : Event = event.Round played.round in
        let own : last_round_text file old.game.seats (old.game.events ++ first ∷ added.more)
        ≡ flat_map (event_line file) (first ∷ added.more)
        ++ statement file (of_seats old.game.seats (old.game.events ++ first ∷ added.more)) =
        last_text file old.game.seats old.game.events added.more first
        ∙ ap (λ (list : List Event). flat_map (event_line file) list
        ++ statement file (of_seats old.game.seats (old.game.events ++ first ∷ added.more)))
        (begins_last old.game.events added.more first refl added.no_round)
        in
        ap (rounds_text file) added.added
        ∙ grows_by_last file old.game.seats old.game.events added.more first refl added.no_round
        ∙ ap (λ (text : List ℕ). rounds_text file old.game ++ text)
        (own ∙ ap (λ (list : List Event). flat_map (event_line file) list
        ++ statement file (of_seats old.game.seats (old.game.events ++ list))) added_so)

    -- what the report has after them
    abbrev behind_round : List ℕ
    behind_round =
        statement_then
        ++ ((by_rounds adds file count mid last others).rest ++ (unread_lines 0 (unread_of file) ++ end_text file last.game end))

    report_so : report_text file last.game end
        ≡ header file ++ (rounds_text file old.game
        ++ (flat_map (event_line file) (event.Round round ∷ in_round) ++ behind_round))
    report_so =
        let whole = by_rounds adds file count mid last others in
        let end_part : List ℕ = end_text file last.game end in
        let unread : List ℕ = unread_lines 0 (unread_of file) in
        let after : List ℕ = whole.rest ++ (unread ++ end_part) in
        let first : rounds_text file last.game ≡ rounds_text file mid.game ++ whole.rest = whole.is in
        ap (λ (text : List ℕ). ((header file ++ text) ++ unread) ++ end_part) first
        ∙ append_assoc (header file ++ (rounds_text file mid.game ++ whole.rest)) unread end_part
        ∙ append_assoc (header file) (rounds_text file mid.game ++ whole.rest) (unread ++ end_part)
        ∙ ap (λ (text : List ℕ). header file ++ text) (append_assoc (rounds_text file mid.game) whole.rest (unread ++ end_part))
        ∙ ap (λ (text : List ℕ). header file ++ (text ++ after)) text_of_round_so
        ∙ ap (λ (text : List ℕ). header file ++ text)
        (three_before (rounds_text file old.game) (flat_map (event_line file) (event.Round round ∷ in_round))
        statement_then after)

  pub reported_first : (passing : List Seat) (seat : Seat) (number : ℕ) (ruling : Ruling) (moved later : List Event)
      → mid.game.events
      ≡ old.game.events
      ++ (event.Round round ∷ (passes_of passing ++ (event.Ruled seat number ruling ∷ (moved ++ later))))
      → IsReportedFirst file (report_text file last.game end) old.game round seat number ruling moved
  reported_first passing seat number ruling moved later events =
      let in_round : List Event = passes_of passing ++ (event.Ruled seat number ruling ∷ (moved ++ later)) in
      let a : List ℕ = event_line file (event.Round round) in
      let b : List ℕ = flat_map (pass_line file) passing in
      let r : List ℕ = ruled_line file seat number ruling in
      let m : List ℕ = flat_map (event_line file) moved in
      let d : List ℕ = flat_map (event_line file) later in
      let both : List ℕ = flat_map (event_line file) (moved ++ later) in
      let tail : List ℕ = behind_round in_round events in
      record {
        passing = passing;
        rest = d ++ tail;
        is =
            report_so in_round events
            ∙ ap (λ (text : List ℕ). header file ++ (rounds_text file old.game ++ text))
            (ap (λ (text : List ℕ). text ++ tail) (lines_of_ruling file round passing seat number ruling (moved ++ later))
            ∙ append_assoc a (b ++ (r ++ both)) tail
            ∙ ap (λ (text : List ℕ). a ++ text) (three_before b r both tail)
            ∙ ap (λ (text : List ℕ). a ++ (b ++ (r ++ text)))
            (ap (λ (text : List ℕ). text ++ tail) (flat_map-append (event_line file) moved later)
            ∙ append_assoc m d tail));
      }

  -- what follows the head of the game in the round is what the report says next
  pub reported_next : (head : Game) (added said later : List Event)
      → head.events ≡ old.game.events ++ event.Round round ∷ added
      → mid.game.events ≡ old.game.events ++ (event.Round round ∷ (added ++ (said ++ later)))
      → IsReportedNext file (report_text file last.game end) old.game round head said
  reported_next head added said later there events =
      let in_round : List Event = added ++ (said ++ later) in
      let a : List ℕ = flat_map (event_line file) (event.Round round ∷ added) in
      let b : List ℕ = flat_map (event_line file) said in
      let d : List ℕ = flat_map (event_line file) later in
      let tail : List ℕ = behind_round in_round events in
      let lines : flat_map (event_line file) (event.Round round ∷ in_round) ≡ a ++ (b ++ d) =
      flat_map-append (event_line file) (event.Round round ∷ added) (said ++ later)
      ∙ ap (λ (text : List ℕ). a ++ text) (flat_map-append (event_line file) said later) in
      record {
        added = added;
        there = there;
        rest = d ++ tail;
        is =
            report_so in_round events
            ∙ ap (λ (text : List ℕ). header file ++ (rounds_text file old.game ++ text))
            (ap (λ (text : List ℕ). text ++ tail) lines ∙ three_before a b d tail);
      }
