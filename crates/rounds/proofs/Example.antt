-- The games of two small files, computed from the definitions.
use Rattle.rounds.proofs.Forward.{posted_each}
use Rattle.std.specs.List.{list_all, range_with_len}
use Rattle.std.proofs.Common.{not, Bool, true, ◌≡◌, ℕ, ◌<◌, false, List, [], ◌∷◌, Err, take, refl}
use Rattle.std.proofs.Common.{arith, ◌++◌}
use Rattle.std.proofs.lemmas.Bool.{not-true}
use Rattle.events.specs.declared.event.Event.{Event}
use Rattle.privates.specs.Opening.{IsOpeningRound, in_play}
use Rattle.privates.specs.Sale.{settled}
use Rattle.rounds.specs.Example.{first_end, first_events, first_file, second_end, second_file}
use Rattle.rounds.specs.Example.{second_opening, second_stock_round}
use Rattle.rounds.specs.Play.{Plays, before_play, Between, IsRound}
use Rattle.sheets.specs.File.{begins, body_of, content_of, is_sheet_line, players_of, sheet_of}
use Rattle.sheets.specs.File.{version_of}
use Rattle.sheets.specs.declared.fault.FileFault.TheVariants.{Header}
use Rattle.sheets.specs.Part.{Numbered}
use Rattle.sheets.specs.Text.{is_blank, written_lines}
use Rattle.tables.specs.Turns.{InPlay}
use Rattle.tables.specs.declared.round.Round.TheVariants.{Opening, Stock}
use Rattle.certs.specs.Purchase.{is_at_limit, is_sold_out_there, is_over_six, is_second}
use Rattle.certs.specs.Purchase.{is_short_of_cash, purchase_judgement}
use Rattle.totals.specs.LookBack.{Game}
use Rattle.market.specs.OperatingOrder.{operating_order_of}
use Rattle.rounds.specs.declared.following.Next.TheVariants as next
use Rattle.stock_round.specs.StockRound as stock

goes_on_for : (over : ℕ → Bool) (n : ℕ) → list_all (λ k. not (over k)) (range_with_len 0 n) ≡ true →
    (k : ℕ) → k < n → over k ≡ false
goes_on_for over n none k below = not-true (over k) (posted_each (λ at. not (over at)) 0 n k none
    (omega arith) (omega arith))

-- the round after its turns
abbrev last_turn : InPlay (List Event) Numbered
last_turn = in_play (take 6 first_events) 1 3 ([] ∷ [] ∷ [] ∷ [])

-- the round leads to these events
played : IsOpeningRound first_file (Opening 1) (record { seats = 3; events = [] })
    (record { seats = 3; events = first_events })
unfolding sheet_of players_of body_of content_of version_of written_lines is_blank begins is_sheet_line settled
played =
    record {
      last = last_turn;
      turns = record
          { steps = 4; reached = refl; over_then = refl; not_before = goes_on_for _ 4 refl };
      after = refl;
    }

-- and so does the game
pub first_plays : Plays first_file first_end
unfolding sheet_of players_of body_of content_of version_of written_lines is_blank begins is_sheet_line settled
first_plays =
    record {
      rounds = 1;
      reached = (
        before_play first_file,
        refl,
        record {
          round = Opening 1;
          comes = refl;
          posted = refl;
          played = played;
          next_then = refl;
          in_set_then = refl;
        },
      );
      stopped = refl;
    }

-- an empty file has no header
pub empty_refused : content_of [] ≡ Err Header
unfolding content_of written_lines
empty_refused = refl

-- the opening round after its turns
abbrev opening_end : InPlay (List Event) Numbered
opening_end = in_play second_opening 0 0 ([] ∷ [] ∷ [] ∷ [])

-- the game after the opening round
abbrev after_opening : Game
after_opening = record { seats = 3; events = second_opening }

-- the opening round leads there
opening_played : IsOpeningRound second_file (Opening 1) (record { seats = 3; events = [] }) after_opening
unfolding sheet_of players_of body_of content_of version_of written_lines is_blank begins is_sheet_line settled
opening_played =
    record {
      last = opening_end;
      turns = record
          { steps = 6; reached = refl; over_then = refl; not_before = goes_on_for _ 6 refl };
      after = refl;
    }

-- the stock round after its turns
abbrev stock_end : InPlay (List Event) Numbered
stock_end = in_play (second_opening ++ second_stock_round) 2 3 ([] ∷ [] ∷ [] ∷ [])

-- the stock round leads to the end
stock_played : stock.IsStockRound second_file (Stock 1) after_opening second_end.game
unfolding sheet_of players_of body_of content_of version_of written_lines is_blank begins is_sheet_line
    purchase_judgement is_sold_out_there is_short_of_cash is_at_limit is_over_six is_second operating_order_of
stock_played =
    record {
      last = stock_end;
      turns = record
          { steps = 5; reached = refl; over_then = refl; not_before = goes_on_for _ 5 refl };
      after = refl;
    }

-- between the two rounds
abbrev between_rounds : Between
between_rounds = record { game = after_opening; in_set = 1; next = next.Round (Stock 1) }

-- the first round
first_round : IsRound second_file (before_play second_file) between_rounds
unfolding sheet_of players_of body_of content_of version_of written_lines is_blank begins is_sheet_line settled
first_round =
    record {
      round = Opening 1;
      comes = refl;
      posted = refl;
      played = opening_played;
      next_then = refl;
      in_set_then = refl;
    }

-- the second
second_round : IsRound second_file between_rounds second_end
unfolding sheet_of players_of body_of content_of version_of written_lines is_blank begins is_sheet_line
second_round =
    record {
      round = Stock 1;
      comes = refl;
      posted = refl;
      played = stock_played;
      next_then = refl;
      in_set_then = refl;
    }

-- so the game goes
pub second_plays : Plays second_file second_end
unfolding sheet_of players_of body_of content_of version_of written_lines is_blank begins is_sheet_line
second_plays =
    record {
      rounds = 2;
      reached = (between_rounds, (before_play second_file, refl, first_round), second_round);
      stopped = refl;
    }
