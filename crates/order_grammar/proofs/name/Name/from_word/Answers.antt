use Rattle.std.proofs.Common.{◌≡◌, ◌∙◌, ◌<◌, ◌+◌, ◌-◌, ◌∷◌, ◌++◌, [], List, ℕ, sym, ap, take, drop, length, set}
use Rattle.std.proofs.Common.{replicate, arith}
use Rattle.std.proofs.lemmas.List.{length-set, take_more_set, drop-set-lt, map_more, drop-replicate, drop-drop}
use Rattle.std.specs.Char.{to_ascii_uppercase}
use Rattle.order_grammar.specs.Words.{raised}
use Rattle.order_grammar.proofs.name.Name.from_word.Goals as goal

pub loop-i-preserved : goal.loop-i-preserved
loop-i-preserved c =
    let i = c.loop-i.i in
    let letters = c.loop-i.letters in
    let byte = c.to_ascii_uppercase.result in
    let word = c.args.word.now in
    let short = c.if-not-spells_name.ensures.short in
    let lt : i < length letters = omega (arith, short) in
    let prefix : take (i + 1) (set letters i byte) ≡ raised (take (i + 1) word) =
    take_more_set letters i byte lt ∙ ap (λ (x : List ℕ). x ++ byte ∷ []) c.loop-i.invariant.1
    ∙ ap (λ (x : ℕ). raised (take i word) ++ x ∷ []) c.to_ascii_uppercase.ensures.value
    ∙ sym (map_more to_ascii_uppercase word i 0 c.loop-i-test.true) in
    let rest : drop (i + 1) (set letters i byte) ≡ replicate (8 - (i + 1)) 0 =
    drop-set-lt (i + 1) letters i byte (omega arith) ∙ sym (drop-drop 1 i letters)
    ∙ ap (λ (x : List ℕ). drop 1 x) c.loop-i.invariant.2
    ∙ drop-replicate 1 (8 - i) 0 ∙ ap (λ n. replicate n 0) (omega arith) in
    (length-set letters i byte ∙ c.loop-i.invariant.0, prefix, rest)
