-- All that is said of a sheet before its round is played: of each of its lines that has a fault, is out of its place, breaks
-- a rule by the orders before it, by the map and the tables, or by the game as the round begins, or begins orders that are
-- ignored; and of each company that it leaves without orders.
use Rattle.std.specs.Prelude.{◌≡◌, ℕ, ◌+◌, ◌≤◌, Bool, true, false, ◌&&◌, nat_lt, if◌then◌else◌, List, [], ◌∷◌, ◌++◌}
use Rattle.std.specs.Prelude.{Option, Some, None, is_none, is_some, option_copied, option_map, unwrap_or, slice_get, slice_set, Result, Ok, Err, replicate}
use Rattle.std.specs.List.{flat_map}
use Rattle.std.specs.Option.{option_or}
use Rattle.desk_base.specs.Belongings.{objection_by_view, other_president}
use Rattle.desk_base.specs.Objections.{objection_to}
use Rattle.desk_base.specs.declared.objection.Objection.{Objection}
use Rattle.desk_check.specs.Looked.{has_to_order}
use Rattle.desk_check.specs.OrderSteps.{block_then, no_orders, objection_behind}
use Rattle.desk_check.specs.Unplayed.{look_of}
use Rattle.desk_check.specs.declared.check_orders.Block.{Block}
use Rattle.desk_check.specs.declared.check_reading.Look.{Look}
use Rattle.desk_check.specs.declared.check_reading.Look.TheVariants as look
use Rattle.desk_check.specs.declared.check_reading.Read.{Read}
use Rattle.desk_check.specs.declared.check_reading.Reader.{Reader}
use Rattle.desk_trials.specs.Mail.{is_mail}
use Rattle.desk_trials.specs.SheetFaults.{ends_sheet, said_of_fault}
use Rattle.desk_trials.specs.declared.check_found.Finding.{Finding}
use Rattle.desk_trials.specs.declared.check_found.Found.{Found}
use Rattle.desk_trials.specs.declared.check_found.Matter.{Matter}
use Rattle.desk_trials.specs.declared.check_found.Matter.TheVariants as matter
use Rattle.desk_trials.specs.declared.check_found.Said.{Said}
use Rattle.desk_trials.specs.declared.check_found.Said.TheVariants.{Again, Breaks, Presided}
use Rattle.desk_trials.specs.declared.check_sheets.Head as its
use Rattle.sheets.specs.declared.sheet_key.SheetKey.{SheetKey}
use Rattle.events.specs.declared.event.Event.{Event}
use Rattle.events.specs.declared.ruling.Refusal.{Refusal}
use Rattle.order_grammar.specs.Version.{reading_in}
use Rattle.order_grammar.specs.declared.condition.Version.{Version}
use Rattle.order_grammar.specs.declared.fault.Fault.{Fault}
use Rattle.order_grammar.specs.declared.order.Order.{Order}
use Rattle.order_grammar.specs.declared.order.Order.TheVariants as order
use Rattle.order_grammar.specs.declared.play.PlayOrder.TheVariants as play
use Rattle.sheets.specs.Part.{Numbered, numbered}
use Rattle.sheets.specs.Text.{is_blank, lines_of}
use Rattle.tables.specs.Roster.{companies, index_of_company}
use Rattle.tables.specs.declared.roster.Company.{Company}
use Rattle.tables.specs.declared.round.Round.{Round}
use Rattle.tables.specs.declared.round.Round.TheVariants.{Opening, Stock, Operating}
use Rattle.tables.specs.declared.seat.Seat.{Seat}

-- the events of the game as the round begins, where that is known
abbrev pub game_of : Reader → Option (List Event)
game_of reader = option_map (λ view. view.events) (option_copied reader.view)

-- no line has come
abbrev pub nothing_read : Read
nothing_read = record { number = 0; is_open = false; block = no_orders; begun = replicate 8 None }

-- the line on which a company's orders begin, if they do
abbrev pub begun_at : List (Option ℕ) → Company → Option ℕ
begun_at begun company = unwrap_or (slice_get begun (index_of_company company)) None

-- they begin on this line
abbrev pub begun_then : List (Option ℕ) → Company → ℕ → List (Option ℕ)
begun_then begun company line = slice_set begun (index_of_company company) (Some line)

-- what is said where another presides, if one does
abbrev pub presided_by : Company → Option (Option Seat) → Option Said
presided_by company None = None
presided_by company (Some president) = Some (Presided company president)

-- what is said of the orders of a company, by the game as the round begins, where that is known
abbrev pub presided : Option (List Event) → SheetKey → Company → Option Said
presided None sent company = None
presided (Some events) sent company = presided_by company (other_president events company sent.seat)

-- what is said of the head of a company's orders: they begin on a line before it, or are for another to give
abbrev pub said_of_company : Option (List Event) → SheetKey → Company → Option ℕ → Option Said
said_of_company game sent company (Some first) = Some (Again company first)
said_of_company game sent company None = presided game sent company

-- the lines on which orders begin, with those of a company, unless they began before
abbrev pub begun_with : List (Option ℕ) → Company → ℕ → Option ℕ → List (Option ℕ)
begun_with begun company line (Some first) = begun
begun_with begun company line None = begun_then begun company line

-- with those that this order begins, if it heads a company's orders
abbrev pub begun_by_order : List (Option ℕ) → ℕ → Order → List (Option ℕ)
begun_by_order begun line (order.Company company) = begun_with begun company line (begun_at begun company)
begun_by_order begun line other = begun

-- behind the head of a turn, or of a company's orders
abbrev pub begun_by : List (Option ℕ) → ℕ → Result Order Fault → List (Option ℕ)
begun_by begun line (Err fault) = begun
begun_by begun line (Ok its) = begun_by_order begun line its

-- what is said of a head with this order
abbrev pub said_of_head_order : Option (List Event) → SheetKey → List (Option ℕ) → Order → Option Said
said_of_head_order game sent begun (order.Company company) =
    said_of_company game sent company (begun_at begun company)
said_of_head_order game sent begun other = None

-- what is said of it
abbrev pub said_of_head : Option (List Event) → SheetKey → List (Option ℕ) → Result Order Fault → Option Said
said_of_head game sent begun (Err fault) = None
said_of_head game sent begun (Ok its) = said_of_head_order game sent begun its

-- what is said of an order that breaks a rule, if it breaks one
abbrev pub said_of_wrong : Option (Refusal × Objection) → Option Said
said_of_wrong None = None
said_of_wrong (Some wrong) = Some (Breaks wrong.0 wrong.1)

-- why an order is wrong by the orders before it: those of a company's turn have steps, and those of other turns have none
abbrev pub wrong_by_steps : Round → Block → Order → Option (Refusal × Objection)
wrong_by_steps (Operating set number) block its = objection_behind block its
wrong_by_steps other block its = None

-- why an order is wrong by the orders before it, by the map and the tables
abbrev pub wrong_by_itself : SheetKey → Bool → Block → Order → Option (Refusal × Objection)
wrong_by_itself sent is_open block its =
    option_or (wrong_by_steps sent.round block its) (objection_to sent.round is_open its)

-- the order buys a train
abbrev pub is_purchase : Order → Bool
is_purchase (order.Play (play.BuyTrain kind from)) = true
is_purchase other = false

-- why it is by the game as the round begins, where that is known; of a train that is bought nothing is
abbrev pub wrong_by_game : Option (List Event) → SheetKey → Order → Option (Refusal × Objection)
wrong_by_game None sent its = None
wrong_by_game (Some events) sent its = if is_purchase its then None else objection_by_view events sent.seat its

-- why it is by any of these
abbrev pub wrong_with : Option (List Event) → SheetKey → Bool → Block → Order → Option (Refusal × Objection)
wrong_with game sent is_open block its =
    option_or (wrong_by_itself sent is_open block its) (wrong_by_game game sent its)

-- the orders of the turn with one more, unless it is wrong by itself
abbrev pub block_with : Block → Order → Bool → Option (Refusal × Objection) → Block
block_with block its is_conditional wrong = if is_some wrong then block else block_then block its is_conditional

-- behind an order that has a place
abbrev pub block_by : SheetKey → Bool → Block → Bool → Result Order Fault → Block
block_by sent is_open block is_conditional (Err fault) = block
block_by sent is_open block is_conditional (Ok its) =
    block_with block its is_conditional (wrong_by_itself sent is_open block its)

-- what is said of it
abbrev pub said_of_order : Option (List Event) → SheetKey → Bool → Block → Result Order Fault → Option Said
said_of_order game sent is_open block (Err fault) = None
said_of_order game sent is_open block (Ok its) = said_of_wrong (wrong_with game sent is_open block its)

-- behind the head of a turn, or of a company's orders, on a line
abbrev pub read_by_head : Read → ℕ → Result Order Fault → Read
read_by_head read line reading =
    record { number = read.number + 1; is_open = true; block = no_orders; begun = begun_by read.begun line reading }

-- behind an order that has a place
abbrev pub read_by_order : SheetKey → Read → Numbered → Read
read_by_order sent read its = record {
  number = read.number + 1;
  is_open = read.is_open;
  block = block_by sent read.is_open read.block (is_some its.condition) its.reading;
  begun = read.begun;
}

-- behind a line with a fault
abbrev pub read_by_fault : Read → Read
read_by_fault read =
    record { number = read.number + 1; is_open = read.is_open; block = read.block; begun = read.begun }

-- behind a line that looks so
abbrev pub read_by : SheetKey → Read → ℕ → Numbered → Look → Read
read_by sent read line its look.Head = read_by_head read line its.reading
read_by sent read line its look.Good = read_by_order sent read its
read_by sent read line its (look.Bad fault) = read_by_fault read

-- what is said of a line with this fault; of mail nothing is
abbrev pub fault_told : Bool → Fault → List ℕ → Option Said
fault_told is_open fault text = if is_mail text then None else Some (said_of_fault is_open fault)

-- what is said of a line that looks so
abbrev pub said_by_look : Option (List Event) → SheetKey → Read → List ℕ → Numbered → Look → Option Said
said_by_look game sent read text its look.Head = said_of_head game sent read.begun its.reading
said_by_look game sent read text its look.Good = said_of_order game sent read.is_open read.block its.reading
said_by_look game sent read text its (look.Bad fault) = fault_told read.is_open fault text

-- the next line of a sheet, with its number
abbrev pub next_read : Version → Read → List ℕ → Numbered
next_read version read text = numbered (read.number + 1) (reading_in version text)

-- behind one more line; blank ones do not count
abbrev pub read_then : Version → SheetKey → Read → ℕ → List ℕ → Read
read_then version sent read line text =
    if is_blank text
    then read
    else read_by sent read line (next_read version read text)
    (look_of sent.round read.is_open (next_read version read text).reading)

-- what is said of it
abbrev pub said_of_line : Version → Option (List Event) → SheetKey → Read → List ℕ → Option Said
said_of_line version game sent read text =
    if is_blank text
    then None
    else said_by_look game sent read text (next_read version read text)
    (look_of sent.round read.is_open (next_read version read text).reading)

-- what there is to say of a line, which has this number in the file
pub record Shown : Type 0 where
  pub line : ℕ
  pub matter : Matter

-- what a finding shows
abbrev pub shown_by : Finding → List Shown
shown_by finding = record { line = finding.line; matter = finding.matter } ∷ []

-- what some findings show
abbrev pub shown : List Finding → List Shown
shown findings = flat_map shown_by findings

-- what is shown of a line of a sheet, if something is said of it
abbrev pub shown_of : SheetKey → ℕ → Option Said → List Shown
shown_of sent line None = []
shown_of sent line (Some said) = record { line = line; matter = matter.Line sent said } ∷ []

-- unless the line comes before the first that is reported
abbrev pub shown_from : ℕ → SheetKey → ℕ → Option Said → List Shown
shown_from from sent line said = if nat_lt line from then [] else shown_of sent line said

-- behind this many of the lines that are left, where of the file this many came before them
unfoldable pub read_behind : Version → SheetKey → Read → ℕ → List (List ℕ) → Read
read_behind version sent read passed [] = read
read_behind version sent read passed (text ∷ texts) =
    if ends_sheet read.number text
    then read
    else read_behind version sent (read_then version sent read (passed + 1) text) (passed + 1) texts

-- what is shown of the lines that are left, where of the file this many came before them
unfoldable pub shown_in : Version → Option (List Event) → SheetKey → ℕ → Read → ℕ → List (List ℕ) → List Shown
shown_in version game sent from read passed [] = []
shown_in version game sent from read passed (text ∷ texts) =
    if ends_sheet read.number text
    then []
    else shown_from from sent (passed + 1) (said_of_line version game sent read text)
    ++ shown_in version game sent from (read_then version sent read (passed + 1) text) (passed + 1) texts

-- the round is an operating round
abbrev pub is_operating : Round → Bool
is_operating (Operating set number) = true
is_operating (Opening number) = false
is_operating (Stock set) = false

-- a sheet leaves a company without orders that operates, over which its player presides
abbrev pub is_silent : Option (List Event) → SheetKey → List (Option ℕ) → Company → Bool
is_silent None sent begun company = false
is_silent (Some events) sent begun company =
    is_operating sent.round && (is_none (begun_at begun company) && has_to_order events company sent.seat)

-- what is shown of a company, on the line that begins the sheet
abbrev pub silent_one : Option (List Event) → SheetKey → ℕ → List (Option ℕ) → Company → List Shown
silent_one game sent line begun company =
    if is_silent game sent begun company then record { line = line; matter = matter.Silent company } ∷ [] else []

-- of all companies
abbrev pub silent_in : Option (List Event) → SheetKey → ℕ → List (Option ℕ) → List Shown
silent_in game sent line begun = flat_map (silent_one game sent line begun) companies

-- the texts of the lines below a head
abbrev pub texts_below : its.Head → List (List ℕ)
texts_below head = lines_of head.line.rest.now

-- what is shown of the lines of the sheet that a head begins, from this line of the file on
abbrev pub shown_below : Reader → ℕ → its.Head → List Shown
shown_below reader from head =
    shown_in reader.version (game_of reader) reader.sent from nothing_read head.line.number (texts_below head)

-- behind them
abbrev pub read_below : Reader → its.Head → Read
read_below reader head =
    read_behind reader.version reader.sent nothing_read head.line.number (texts_below head)

-- all that is shown of the sheet that a head begins, from this line of the file on
abbrev pub shown_of_sheet : Version → Option (List Event) → ℕ → its.Head → List Shown
shown_of_sheet version game from head =
    shown_in version game head.sent from nothing_read head.line.number (texts_below head)
    ++ silent_in game head.sent head.line.number
    (read_behind version head.sent nothing_read head.line.number (texts_below head)).begun

-- this is added to what is shown, and nothing else; unless it is told how many lines more there are
pub record Adds (old new : Found) (more : List Shown) : Type 0 where
  pub from : new.from ≡ old.from
  pub unlisted : old.unlisted ≤ new.unlisted
  pub added : new.unlisted ≡ 0 → shown new.findings.items ≡ shown old.findings.items ++ more

-- the lines of the sheet that a head begins are looked at: what is shown of them is added, and so far it is read
pub record TakesLines (reader : Reader) (head : its.Head) (old new : Found) (read : Read) : Type 0 where
  pub adds : Adds old new (shown_below reader old.from head)
  pub read_is : read ≡ read_below reader head
