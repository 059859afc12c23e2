-- Example for the chapter `the-game`: what comes after a round.
-- A set of two operating rounds, as it begins in phase 3 or 4. The last two words of `following`
-- say whether all privates are sold, and whether the bank is broken.
use Rattle.std.proofs.Common.{◌≡◌, refl, true, false}
use Rattle.rounds.specs.Sequence.{following}
use Rattle.rounds.specs.declared.following.Next.TheVariants as next
use Rattle.tables.specs.declared.round.Round.TheVariants.{Opening, Stock, Operating}

-- another opening round, until all privates are sold
pub opening_again : following (Opening 1) 1 false false ≡ next.Round (Opening 2)
opening_again = refl

pub first_stock_round : following (Opening 2) 1 true false ≡ next.Round (Stock 1)
first_stock_round = refl

-- OR2.1, OR2.2, and then SR3
pub after_sr2 : following (Stock 2) 2 true false ≡ next.Round (Operating 2 1)
after_sr2 = refl

pub after_or2_1 : following (Operating 2 1) 2 true false ≡ next.Round (Operating 2 2)
after_or2_1 = refl

pub after_or2_2 : following (Operating 2 2) 2 true false ≡ next.Round (Stock 3)
after_or2_2 = refl

-- once the bank is broken, the set is played to its end
pub broken_in_or2_1 : following (Operating 2 1) 2 true true ≡ next.Round (Operating 2 2)
broken_in_or2_1 = refl

pub broken_in_or2_2 : following (Operating 2 2) 2 true true ≡ next.Ended
broken_in_or2_2 = refl
