-- Of the lines of a company's orders the RAISE lines alone bring the same as all.
use Rattle.std.proofs.Common.{◌≡◌, Bool, true, false, if◌then◌else◌, List, [], ◌∷◌, Result, Ok, refl, sym, ap, ◌∙◌}
use Rattle.totals.specs.LookBack.{Game, with_event}
use Rattle.events.specs.declared.event.Event.TheVariants as event
use Rattle.forced_purchase.specs.Forced.{after_forced, concluded, sold_singly}
use Rattle.forced_purchase.specs.Raise.{after_raise_line, after_raises, is_raise, raises_in}
use Rattle.forced_purchase.specs.declared.operator.Operator.{Operator}
use Rattle.order_grammar.specs.declared.fault.Fault.{Fault}
use Rattle.order_grammar.specs.declared.order.Order.{Order}
use Rattle.order_grammar.specs.declared.order.Order.TheVariants as order
use Rattle.order_grammar.specs.declared.play.PlayOrder.TheVariants as play
use Rattle.sheets.specs.Part.{Numbered}

-- a line that is no RAISE changes nothing
no_raise : (due : Bool) (by : Operator) (game : Game) (line : Numbered) (reading : Result Order Fault)
    → is_raise reading ≡ false → after_raise_line due by game line reading ≡ game
no_raise due by game line (Ok (order.Play (play.Raise company shares))) is = absurd cc
no_raise due by game line other is = refl

pub raises_alone : (due : Bool) (by : Operator) (lines : List Numbered) (game : Game)
    → after_raises due by game (raises_in lines) ≡ after_raises due by game lines
raises_alone due by [] game = refl
raises_alone due by (line ∷ lines) game =
    elim (is_raise line.reading) as (λ (b : Bool). is_raise line.reading ≡ b →
    after_raises due by game (if b then line ∷ raises_in lines else raises_in lines)
    ≡ after_raises due by (after_raise_line due by game line line.reading) lines) [
      | true ↦ λ is. raises_alone due by lines (after_raise_line due by game line line.reading)
      | false ↦ λ is.
          raises_alone due by lines game
          ∙ ap (λ (g : Game). after_raises due by g lines) (sym (no_raise due by game line line.reading is))
    ]
    refl

-- also of a purchase that is due
pub forced_alone : (by : Operator) (lines : List Numbered) (game : Game)
    → after_forced by (raises_in lines) game ≡ after_forced by lines game
unfolding after_forced
forced_alone by lines game =
    ap (λ (raised : Game). concluded by (sold_singly by raised))
    (raises_alone true by lines (with_event game (event.Forced by.company)))
