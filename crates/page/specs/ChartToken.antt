-- The token of a company on the stock chart of a page: its square, its place among those that lie
-- there, and whether the last round moved it, and from where.
use Rattle.std.specs.Prelude.{List, Option, Some, None, map}
use Rattle.desk_cells.specs.Stack.{before_in_stack}
use Rattle.events.specs.declared.event.Event.{Event}
use Rattle.page_charts.specs.declared.chart_part.ChartToken.{ChartToken}
use Rattle.page_map.specs.News.{in_last_round, is_move_of, square_before_round}
use Rattle.tables.specs.Roster.{companies}
use Rattle.tables.specs.declared.roster.Company.{Company}
use Rattle.tables.specs.declared.squares.Square.{Square}
use Rattle.totals.specs.Shares.{square_of}

-- the token of a company on this square, if it is on one
abbrev pub token_on : List Event → Company → Option Square → Option ChartToken
token_on events company None = None
token_on events company (Some square) =
    Some
    (record {
      company = company;
      square = square;
      place = before_in_stack events square company;
      is_new = in_last_round (is_move_of company) events;
      from = square_before_round events company;
    })

-- the token of a company, if it is on the chart
abbrev pub chart_token : List Event → Company → Option ChartToken
chart_token events company = token_on events company (square_of events company)

-- the tokens on the chart, in the order of the roster
unfoldable pub tokens_of : List Event → List (Option ChartToken)
tokens_of events = map (chart_token events) companies
