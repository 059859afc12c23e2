-- Example for the chapter `lines`: what lines are.
-- A line is read in either case, with any number of spaces, and without its comment. Printed it has
-- one spelling.
use Rattle.std.proofs.Common.{◌≡◌, refl, [], ◌∷◌, Some, Ok, Err}
use Rattle.std.proofs.Common.{codes}
use Rattle.map_tables.specs.declared.hex.Hex.TheVariants.{H10, H12}
use Rattle.map_tables.specs.declared.place.StopNumber.TheVariants.{First}
use Rattle.order_grammar.specs.Line.{reading_of}
use Rattle.order_grammar.specs.Print.{spelling_of}
use Rattle.order_grammar.specs.declared.fault.Fault.TheVariants as fault
use Rattle.order_grammar.specs.declared.order.Order.{Order}
use Rattle.order_grammar.specs.declared.order.Order.TheVariants as order
use Rattle.order_grammar.specs.declared.play.PlayOrder.TheVariants as play
use Rattle.tables.specs.declared.rolling_stock.Kind.TheVariants.{Two}
use Rattle.tables.specs.declared.roster.Company.TheVariants.{Pennsylvania}
use Rattle.map_tables.specs.Hex.{hex_at, hexes, site_of}
use Rattle.std.specs.Fmt.{digits}

-- the run of a 2 from H12.0 to H10.0
abbrev run : Order
run = order.Run Two
    (record { hex = H12; stop = Some First } ∷ record { hex = H10; stop = Some First } ∷ [])

pub is_read : reading_of (codes "run 2 h12.0  H10.0 # x") ≡ Ok run
unfolding hex_at hexes site_of
is_read = refl

pub is_printed : spelling_of run ≡ codes "RUN 2 H12.0 H10.0"
unfolding site_of digits
is_printed = refl

pub sale : reading_of (codes "SELL PRR 02") ≡ Ok (order.Play (play.Sell Pennsylvania 2))
sale = refl

-- a first word that no form has (G3), words of no form (G4), a number more than 99,999 (G5), a tab (G2)
pub no_form : reading_of (codes "SELLS PRR 2") ≡ Err fault.UnknownWord
no_form = refl

pub wrong_words : reading_of (codes "SELL PRR") ≡ Err fault.WrongWords
wrong_words = refl

pub too_large : reading_of (codes "SELL PRR 100000") ≡ Err fault.NumberTooLarge
too_large = refl

pub tab : reading_of (codes "SELL\tPRR 2") ≡ Err fault.StrayByte
tab = refl
