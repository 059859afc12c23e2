use Rattle.order_grammar.proofs.KeywordLemmas.{spelt_is}
use Rattle.order_grammar.proofs.keyword.Keyword.of_word.Goals as goal

pub returns : goal.returns
returns c =
    spelt_is c.args.word.now _ _ _ c.in-len1-up.len_at_least c.to_ascii_uppercase.ensures.value
    c.beginning_with.ensures c.first_spelt.ensures
