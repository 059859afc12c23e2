-- The first word of an order of play: it is there, and it begins no sheet.
use Rattle.std.proofs.Common.{◌≡◌, ℕ, true, false, List, [], ◌∷◌, codes, refl, ap}
use Rattle.order_grammar.specs.Spells.{AreWordsFor}
use Rattle.order_grammar.specs.Words.{first_of_words, has_words, same_word}
use Rattle.order_grammar.specs.declared.order.Order.TheVariants.{Play}
use Rattle.order_grammar.specs.declared.order.ShareSource.TheVariants.{InitialOffering, BankPool}
use Rattle.order_grammar.specs.declared.play.PlayOrder.{PlayOrder}
use Rattle.order_grammar.specs.declared.play.PlayOrder.TheVariants.{BuyShare}

-- there is a first word, and it is not SHEET
pub record BeginInSheet (words : List (List ℕ)) : Type 0 where
  pub some : has_words words ≡ true
  pub other : same_word (first_of_words words) (codes "SHEET") ≡ false

pub begin_in_sheet : (order : PlayOrder) (words : List (List ℕ)) → AreWordsFor (Play order) words → BeginInSheet words
begin_in_sheet (BuyShare company InitialOffering) [] are = absurd are
begin_in_sheet (BuyShare company InitialOffering) (first ∷ rest) are =
    record { some = refl; other = ap (λ (word : List ℕ). same_word word (codes "SHEET")) are.0 }
begin_in_sheet (BuyShare company BankPool) [] are = absurd are
begin_in_sheet (BuyShare company BankPool) (first ∷ rest) are =
    record { some = refl; other = ap (λ (word : List ℕ). same_word word (codes "SHEET")) are.0 }
begin_in_sheet other [] are = absurd are
begin_in_sheet other (first ∷ rest) are =
    record { some = refl; other = ap (λ (word : List ℕ). same_word word (codes "SHEET")) are.0 }
