-- What is added in two parts is added as one.
use Rattle.std.proofs.Common.{◌≡◌, ℕ, List, ◌++◌, ap, ◌∙◌, append_assoc}

pub added_in_two :
    (old first last between new : List ℕ) → between ≡ old ++ first → new ≡ between ++ last
    → new ≡ old ++ (first ++ last)
added_in_two old first last between new before after =
    after ∙ ap (λ (text : List ℕ). text ++ last) before ∙ append_assoc old first last
