use Rattle.std.proofs.Common.{List, ℕ, ◌+◌, ◌/◌, ◌%◌, ◌++◌, ◌∷◌, [], append_assoc, ap, sym, ◌∙◌}
use Rattle.std.proofs.lemmas.Fmt.{decimal_digit}
use Rattle.map_tables.proofs.Texts.{two_digits}
use Rattle.map_tables.proofs.text.push_number.Goals as goal

pub returns-then-number-lt10 : goal.returns-then-number-lt10
returns-then-number-lt10 c =
    c.push.ensures.items ∙ ap (λ (digits : List ℕ). c.args.text.now.items ++ digits)
    (sym (decimal_digit c.args.number c.if-number-lt10.true))

pub returns : goal.returns
returns c =
    c.push-3.ensures.items ∙ ap (λ (bytes : List ℕ). bytes ++ (48 + c.args.number % 10) ∷ []) c.push-2.ensures.items
    ∙ append_assoc c.args.text.now.items ((48 + c.args.number / 10) ∷ []) ((48 + c.args.number % 10) ∷ [])
    ∙ ap (λ (digits : List ℕ). c.args.text.now.items ++ digits)
    (sym (two_digits c.args.number c.if-number-lt10.false c.requires.under))
