-- If files have the same players, sheets that are read the same and the same unread lines, a game
-- of theirs is printed the same after the first line.
use Rattle.std.proofs.Common.{◌≡◌, ℕ, List, [], ◌∷◌, ◌++◌, length, is_some, append_assoc, ap, refl, subst, sym, ◌∙◌}
use Rattle.std.specs.Prelude.{Option, Some, None, is_none, Result, Ok, Err, IsOk}
use Rattle.std.specs.List.{flat_map, range_with_len}
use Rattle.events.specs.declared.event.Event.{Event}
use Rattle.events.specs.declared.event.Event.TheVariants.{Round, Ruled, Passes, Left, Sold, Bids, Price, Revenue, Given}
use Rattle.events.specs.declared.event.Event.TheVariants.{Par, President, Bought, Sells, Exchanged, Floats, Moves, Home}
use Rattle.events.specs.declared.event.Event.TheVariants.{Laid, Token, Withheld, Runs, Dividend, Traded, Train, Phase}
use Rattle.events.specs.declared.event.Event.TheVariants.{Rusted, Discarded, Closed, PrivateBought, Forced, Aid}
use Rattle.events.specs.declared.event.Event.TheVariants.{Bankrupt, Broken}
use Rattle.events.specs.declared.event.Holder.{Holder}
use Rattle.events.specs.declared.event.Holder.TheVariants as holder
use Rattle.totals.specs.Shares.{president_of, square_of}
use Rattle.tables.specs.Roster.{companies}
use Rattle.tables.specs.declared.roster.Company.{Company}
use Rattle.tables.specs.declared.seat.Seat.{Seat}
use Rattle.tables.specs.declared.squares.Square.{Square}
use Rattle.order_grammar.specs.declared.condition.Version.{Version}
use Rattle.report.specs.Laws.{ArrivalChangesNoReport, DiffersInVersion, SamePartsSameReport}
use Rattle.report.specs.Line.{event_line, holder_text}
use Rattle.report.specs.Report.{IsReport, IsReportOf, end_text, game_line, header, name_owing, owing, players_line}
use Rattle.report.specs.Report.{report_text, rounds_in, rounds_text, texts_of_rounds, unread_lines}
use Rattle.report.specs.Statement.{company_line, company_lines, line_on_square, player_line, player_lines}
use Rattle.report.specs.Statement.{president_name, started_line, statement}
use Rattle.report.specs.EndWorth.{worth_lines}
use Rattle.rounds.specs.Play.{Between, end_of}
use Rattle.rounds.specs.ReadAlike.{ReadAlikeFor, AreReadAlike, SamePartsSameGame, SameSheetsAreReadAlike}
use Rattle.rounds.specs.declared.game.End.{End}
use Rattle.rounds.specs.declared.game.End.TheVariants.{Awaiting, Bank, Bankrupt}
use Rattle.sheets.specs.File.{Content, content_of, players_of, sheet_of, unread_of, version_of}
use Rattle.sheets.specs.Laws.{ArrivalChangesNothing}
use Rattle.sheets.specs.declared.fault.FileFault.{FileFault}
use Rattle.totals.specs.LookBack.{Game}
use Rattle.tables.specs.declared.round.Round as table

-- the same holder is printed the same
holder_same : (f g : List ℕ) (owner : Holder) → players_of f ≡ players_of g → holder_text f owner ≡ holder_text g owner
holder_same f g (holder.Seat seat) players = rw players refl
holder_same f g (holder.Company company) players = refl

-- the same event is printed the same
event_same : (f g : List ℕ) (event : Event) → players_of f ≡ players_of g → event_line f event ≡ event_line g event
event_same f g (Round round) players = refl
event_same f g (Ruled seat line ruling) players = rw players refl
event_same f g (Passes seat) players = rw players refl
event_same f g (Left seat lines) players = rw players refl
event_same f g (Sold private seat price) players = rw players refl
event_same f g (Bids private seat amount) players = rw players refl
event_same f g (Price price) players = refl
event_same f g (Revenue private owner amount) players = rw (holder_same f g owner players) refl
event_same f g (Given company seat shares) players = rw players refl
event_same f g (Par company price) players = refl
event_same f g (President company seat) players = rw players refl
event_same f g (Bought company seat shares from price) players = rw players refl
event_same f g (Sells company seat shares price) players = rw players refl
event_same f g (Exchanged seat from) players = rw players refl
event_same f g (Floats company amount) players = refl
event_same f g (Moves company square) players = refl
event_same f g (Home company place) players = refl
event_same f g (Laid company lay cost) players = refl
event_same f g (Token company place cost) players = refl
event_same f g (Withheld company amount) players = refl
event_same f g (Runs company revenue) players = refl
event_same f g (Dividend company paid amount) players = rw (holder_same f g paid players) refl
event_same f g (Traded company kind) players = refl
event_same f g (Train company kind from price) players = refl
event_same f g (Phase kind) players = refl
event_same f g (Rusted owner kind) players = refl
event_same f g (Discarded company kind) players = refl
event_same f g (Closed private) players = refl
event_same f g (PrivateBought private company seller price) players = refl
event_same f g (Forced company) players = refl
event_same f g (Aid seat company amount) players = rw players refl
event_same f g (Bankrupt seat) players = rw players refl
event_same f g Broken players = refl

-- the same players have the same lines
players_same : (f g : List ℕ) (game : Game) → players_of f ≡ players_of g
    → player_lines f game ≡ player_lines g game
unfolding player_lines player_line
players_same f g game players = rw players refl

-- the same president has the same name
president_same : (f g : List ℕ) (president : Option Seat) → players_of f ≡ players_of g
    → president_name f president ≡ president_name g president
president_same f g None players = refl
president_same f g (Some seat) players = rw players refl

-- the same company has the same line
company_same : (f g : List ℕ) (game : Game) (company : Company) (square : Option Square)
    → players_of f ≡ players_of g → line_on_square f game company square
    ≡ line_on_square g game company square
unfolding company_line
company_same f g game company None players = refl
company_same f g game company (Some square) players =
    rw (president_same f g (president_of game.events company) players) refl

-- the same of these companies have the same lines
companies_same : (f g : List ℕ) (game : Game) (list : List Company) → players_of f ≡ players_of g
    → flat_map (λ company. started_line f game company) list
    ≡ flat_map (λ company. started_line g game company) list
companies_same f g game [] players = refl
companies_same f g game (company ∷ others) players =
    rw (
      company_same f g game company (square_of game.events company) players,
      companies_same f g game
          others players,
    ) refl

-- the same companies have the same lines
company_lines_same : (f g : List ℕ) (game : Game) → players_of f ≡ players_of g
    → company_lines f game ≡ company_lines g game
unfolding company_lines
company_lines_same f g game players = companies_same f g game companies players

-- the same events give the same statement
statement_same : (f g : List ℕ) (game : Game) → players_of f ≡ players_of g
    → statement f game ≡ statement g game
statement_same f g game players =
    rw (players_same f g game players, company_lines_same f g game players) refl

-- the same events are printed the same
events_same : (f g : List ℕ) (events : List Event) → players_of f ≡ players_of g
    → flat_map (event_line f) events ≡ flat_map (event_line g) events
events_same f g [] players = refl
events_same f g (event ∷ events) players = rw (event_same f g event players, events_same f g events players)

-- the same rounds are printed the same
rounds_same : (f g : List ℕ) (seats : ℕ) (before : List Event) (rounds : List (List Event))
    → players_of f ≡ players_of g → texts_of_rounds f seats before rounds ≡ texts_of_rounds g seats before rounds
rounds_same f g seats before [] players = refl
rounds_same f g seats before (round ∷ rounds) players =
    rw (
      events_same f g round players,
      statement_same f g (record { seats = seats; events = before ++ round }) players,
      rounds_same f g seats
          (before ++ round) rounds players,
    )

-- of two sheets that are both there or both missing, both are owed or none
owed_same : (a b : Option (List (List ℕ))) → is_some a ≡ is_some b → is_none a ≡ is_none b
owed_same None None same = refl
owed_same (Some a) (Some b) same = refl
owed_same None (Some b) same = absurd cc
owed_same (Some a) None same = absurd cc

-- the same of some seats owe a sheet
names_same : (f g : List ℕ) (round : table.Round) (seats : List ℕ) → players_of f ≡ players_of g
    → ReadAlikeFor round f g →
    flat_map (λ seat. name_owing f round seat) seats ≡ flat_map (λ seat. name_owing g round seat) seats
names_same f g round [] players same = refl
names_same f g round (seat ∷ seats) players same =
    rw (
      players,
      owed_same (sheet_of f seat round) (sheet_of g seat round) (same.posted seat),
      names_same f g round
          seats players same,
    )

-- the same owe a sheet
owing_same : (f g : List ℕ) (round : table.Round) → players_of f ≡ players_of g → ReadAlikeFor round f g
    → owing f round ≡ owing g round
unfolding owing
owing_same f g round players same =
    names_same f g round (range_with_len 0 (length (players_of f))) players same
    ∙ ap (λ (names : List (List ℕ)). flat_map (λ seat. name_owing g round seat) (range_with_len 0 (length names)))
    players

-- the same players are worth the same
worths_same : (f g : List ℕ) (game : Game) → players_of f ≡ players_of g
    → worth_lines f game ≡ worth_lines g game
unfolding worth_lines
worths_same f g game players = rw players refl

-- the same end is printed the same
end_same : (f g : List ℕ) (game : Game) (end : End) → AreReadAlike f g →
    end_text f game end ≡ end_text g game end
end_same f g game (Awaiting round) same = rw (owing_same f g round same.players (same.sheets round))
end_same f g game Bank same = rw (worths_same f g game same.players) refl
end_same f g game Bankrupt same = rw (worths_same f g game same.players) refl

-- what is after the first line of the report of a file whose game has these events and this end
abbrev behind : List ℕ → Game → End → List ℕ
behind file game end =
    players_line file ++ rounds_text file game ++ unread_lines 0 (unread_of file)
    ++ end_text file game end

-- it is the same of the same game
behind_same : (f g : List ℕ) (game : Game) (end : End) → AreReadAlike f g
    → unread_of f ≡ unread_of g →
    behind f game end ≡ behind g game end
behind_same f g game end same unread =
    rw (
      same.players,
      rounds_same f g game.seats [] (rounds_in game.events) same.players,
      unread,
      end_same f g game end
          same,
    )

-- a first text of five is before the rest
first_of_five : (a b c d e : List ℕ) → a ++ b ++ c ++ d ++ e ≡ a ++ (b ++ c ++ d ++ e)
first_of_five a b c d e =
    ap (λ (prefix : List ℕ). prefix ++ d ++ e) (append_assoc a b c)
    ∙ ap (λ (prefix : List ℕ). prefix ++ e) (append_assoc a (b ++ c) d)
    ∙ append_assoc a (b ++ c ++ d) e

-- the report is the first line and that
in_two : (file : List ℕ) (game : Game) (end : End) →
    report_text file game end ≡ game_line (version_of file) ++ behind file game end
unfolding header
in_two file game end =
    first_of_five (game_line (version_of file)) (players_line file) (rounds_text file game)
    (unread_lines 0 (unread_of file))
    (end_text file game end)

-- a report is that of the other file with its version
report_carried : SamePartsSameGame → (f g : List ℕ) (of_f of_g : Result Content FileFault) → IsOk of_f → IsOk of_g
    → content_of g ≡ of_g →
    AreReadAlike f g → unread_of f ≡ unread_of g → (text : List ℕ) → IsReportOf f of_f text → DiffersInVersion f g text
report_carried same_game f g (Ok a) (Ok b) ok_f ok_g is_g same unread text report =
    let last : Between = report.last in
    let end : End = end_of last.next last.game.events in
    record {
      rest = behind f last.game end;
      is = report.is ∙ in_two f last.game end;
      report =
          subst (λ (content : Result Content FileFault). IsReportOf g content
          (game_line (version_of g) ++ behind f last.game end))
          (sym is_g)
          (record {
            last = last;
            game = same_game f g same last report.game;
            is =
                ap (λ (rest : List ℕ). game_line (version_of g) ++ rest)
                (behind_same f g last.game end same unread)
                ∙ sym (in_two g last.game end);
          });
    }
report_carried same_game f g (Ok a) (Err fault) ok_f ok_g is_g same unread text report = absurd cc
report_carried same_game f g (Err fault) of_g ok_f ok_g is_g same unread text report = absurd cc

-- files whose sheets are read alike have reports that differ in the version alone
pub same_report : SamePartsSameGame → SamePartsSameReport
same_report same_game f g accepted_f accepted_g same unread text report =
    report_carried same_game f g (content_of f) (content_of g) accepted_f accepted_g refl same unread text report

-- arrival changes no report
pub arrival_by : ArrivalChangesNothing → SameSheetsAreReadAlike → SamePartsSameGame → ArrivalChangesNoReport
arrival_by nothing alike same_game f g accepted_f accepted_g version players sent unread text report =
    let same : AreReadAlike f g = record {
      players = players;
      sheets = λ round. alike f g round version (λ seat. nothing f g sent seat round);
    } in
    let differs : DiffersInVersion f g text = same_report same_game f g accepted_f accepted_g same unread text report in
    subst (λ (whole : List ℕ). IsReport g whole)
    (ap (λ (version : Version). game_line version ++ differs.rest) (sym version) ∙ sym differs.is) differs.report
