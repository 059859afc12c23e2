use Rattle.std.proofs.Common.{◌-◌, sym, ◌∙◌, take, drop, length, rules, tests, arith}
use Rattle.std.specs.Char.{is_ascii_alphanumeric}
use Rattle.std.proofs.lemmas.Iterator.{YieldsList-from_slice}
use Rattle.std.proofs.lemmas.Iterator.Search.{all_from_yields_List}
use Rattle.std.proofs.lemmas.List.{length-take, length-drop}
use Rattle.order_grammar.proofs.NameLemmas.{is_name-raised}
use Rattle.order_grammar.proofs.name.spells_name.Goals as goal

pub returns-then-rest-lt-NAME_MOST-clause-value : goal.returns-then-rest-lt-NAME_MOST-clause-value
returns-then-rest-lt-NAME_MOST-clause-value c =
    let word = c.args.word.now in
    let rest = take (length word - 1) (drop 1 word) in
    let all =
    all_from_yields_List is_ascii_alphanumeric _ _ c.all.result c.all.ensures.ran (YieldsList-from_slice rest cc)
    (λ x b q k. search (rules, tests)) in
    let letter = sym c.is_ascii_alphabetic.ensures.value ∙ c.if-rest-lt-NAME_MOST.true.0 in
    is_name-raised word c.all.result letter (omega
    (arith, c.if-rest-lt-NAME_MOST.true.1, length-take (length word - 1) (drop 1 word), length-drop 1 word)) all
    c.in-len1-up.len_at_least
