-- The only order among some lines is an order.
use Rattle.std.proofs.Common.{◌≡◌, ℕ, true, List, [], ◌∷◌, Some, ap, inl, inr, subst}
use Rattle.std.specs.Prelude.{unwrap_or}
use Rattle.std.proofs.lemmas.Bool.{cases_Bool}
use Rattle.hints.specs.Choice.{is_order, is_order_in, only_order}
use Rattle.order_grammar.specs.declared.condition.Version.{Version}

pub only_one_is_order : (version : Version) (lines : List (List ℕ)) (line : List ℕ)
    → only_order version lines ≡ Some line → is_order version line ≡ true
only_one_is_order version [] line found = absurd (cc found)
only_one_is_order version (first ∷ lines) line found =
    elim (cases_Bool (is_order version first)) [
      | inl good ↦
          elim (cases_Bool (is_order_in version lines)) [
            | inl others ↦ absurd (let wrong = rw (good, others) at found in cc)
            | inr alone ↦
                let same : Some first ≡ Some line = rw (good, alone) at found in
                subst (λ text. is_order version text ≡ true) (ap (λ some. unwrap_or some first) same) good
          ]
      | inr bad ↦ only_one_is_order version lines line (rw bad at found)
    ]
