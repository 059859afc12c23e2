use Rattle.std.proofs.Common.{sym, ◌∙◌, rules, tests}
use Rattle.std.specs.Char.{is_ascii_hexdigit}
use Rattle.std.proofs.lemmas.Iterator.{YieldsList-from_slice}
use Rattle.std.proofs.lemmas.Iterator.Search.{all_from_yields_List}
use Rattle.order_grammar.proofs.ClassLemmas.{hex_digits-raised}
use Rattle.order_grammar.proofs.class.are_hex_digits.Goals as goal

pub returns : goal.returns
returns c =
    let word = c.args.word.now in
    let all =
    all_from_yields_List is_ascii_hexdigit _ _ c.all.result c.all.ensures.ran (YieldsList-from_slice word cc)
    (λ x b q k. search (rules, tests)) in
    all ∙ sym (hex_digits-raised word)
