-- A company that floats. Nobody acts by a float, nor by what else follows from an order.
use Rattle.std.proofs.Common.{◌≡◌, ℕ, ◌*◌, ◌≤◌, ◌==◌, Bool, true, false, not, ◌&&◌, List, [], ◌∷◌, ◌++◌}
use Rattle.std.proofs.Common.{Option, Some, None, ℤ, pos, ◌≤ℤ◌, refl, sym, subst, arith}
use Rattle.std.proofs.lemmas.Int.{ints}
use Rattle.std.specs.Int.Signed.{lt_z}
use Rattle.std.specs.Prelude.{unwrap_or}
use Rattle.certs.specs.President.{successor_of}
use Rattle.certs.specs.SaleAct.{with_president, with_successor}
use Rattle.events.specs.declared.event.Event.{Event}
use Rattle.events.specs.declared.event.Event.TheVariants as event
use Rattle.events.specs.declared.event.Shareholder.TheVariants.{InitialOffering}
use Rattle.history.proofs.Blocks.{float_sound as float_law}
use Rattle.history.proofs.Starts.{least_eight}
use Rattle.history.specs.Record.{breaks, with_broken}
use Rattle.history.specs.Sound.{IsLed, IsSound}
use Rattle.totals.specs.LookBack.{Game, with_event}
use Rattle.totals.specs.Shares.{is_floated, par_of, president_of, shares_of, square_of}
use Rattle.stock_round.specs.Float.{floated_at, is_to_float, with_float}
use Rattle.tables.specs.declared.roster.Company.{Company}
use Rattle.tables.specs.declared.seat.Seat.{Seat}
use Rattle.tables.specs.declared.squares.Square.{Square}
use Rattle.turns.proofs.Acted.{in_both, in_either, nobody, one_more}
use Rattle.history.specs.Games.{IsGame}
use Rattle.turns.specs.Acted.{SaysWhoActed}

-- a company that is to float has few shares left
few_left : (floated : Bool) (left : ℤ) → (not floated && not (lt_z (pos 4) left)) ≡ true → left ≤ℤ pos 4
few_left true left is = absurd (cc)
few_left false left is = grind (arith, ints, is)

-- a company that is to float is led
pub float_led : (game : Game) (its : Company) → is_to_float game.events its ≡ true → IsSound game
    → IsLed game.events its
float_led game its ready sound =
    elim (square_of game.events its) as (λ (found : Option Square). square_of game.events its ≡ found
    → IsLed game.events its) [
      | None ↦ λ is.
          let stay = sound.offered its is in
          let eight = least_eight game.events its in
          let few = few_left (is_floated game.events its) (shares_of game.events its InitialOffering) ready in
          let no : 1 ≤ 0 = omega (arith, ints, stay, eight, few) in
          absurd (omega (arith, no))
      | Some square ↦ λ is. sound.led its square is
    ]
    refl

-- a company that floats
pub float_game : (game new : Game) (its : Company) (amount : ℕ) → is_to_float game.events its ≡ true
    → new ≡ with_event game (event.Floats its amount) → IsGame game → IsGame new
float_game game new its amount ready recorded before =
    subst IsGame (sym recorded) (record {
      few = before.few;
      sound = float_law game its amount
          (few_left (is_floated game.events its) (shares_of game.events its InitialOffering) ready) before.sound;
    })

-- nobody acts where the bank breaks
pub in_break : (seats : ℕ) (seat : Seat) (events : List Event) → SaysWhoActed seat false events (with_broken seats events)
in_break seats seat events =
    in_either seat false events (events ++ event.Broken ∷ []) events (breaks seats events)
    (one_more seat false events event.Broken refl) (nobody seat events)

-- nor where a presidency moves from this seat, if any has it
pub in_succession : (game : Game) (seat : Seat) (company : Company) (old : Option Seat)
    → SaysWhoActed seat false game.events (with_successor game company old)
in_succession game seat company None = nobody seat game.events
in_succession game seat company (Some old) =
    let new : Seat = successor_of game.seats game.events company old in
    let events = game.events in
    in_either seat false events events (events ++ event.President company new ∷ []) (new.0 == old.0)
    (nobody seat events)
    (one_more seat false events (event.President company new) refl)

-- nor where a company floats
in_float : (game : Game) (seat : Seat) (company : Company)
    → SaysWhoActed seat false game.events (with_float game company).events
in_float game seat company =
    let events = game.events in
    let par : ℕ = unwrap_or (par_of events company) 0 in
    let recorded : List Event = events ++ event.Floats company (10 * par) ∷ [] in
    in_either seat false events (floated_at game company par).events events (is_to_float events company)
    (in_both seat false false events recorded (with_broken game.seats recorded)
    (one_more seat false events (event.Floats company (10 * par)) refl) (in_break game.seats seat recorded))
    (nobody seat events)

-- nor by what follows from a share that a seat now has
pub in_what_follows : (game : Game) (seat : Seat) (company : Company)
    → SaysWhoActed seat false game.events (with_float (with_president game company) company).events
in_what_follows game seat company =
    let presided : Game = with_president game company in
    in_both seat false false game.events presided.events (with_float presided company).events
    (in_succession game seat company (president_of game.events company)) (in_float presided seat company)
