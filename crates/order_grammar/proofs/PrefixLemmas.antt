-- What a text holds if allocation fails while it is printed: what it held, and a prefix of the
-- rest.
use Rattle.std.proofs.Common.{◌≡◌, ℕ, ◌+◌, ◌<◌, List, [], ◌∷◌, ◌++◌, length, get_or, map, take, drop, subst, Result, Ok}
use Rattle.std.proofs.Common.{Err, OnErr, refl, sym, ap, append_assoc, take-append-drop, ◌∙◌}
use Rattle.std.proofs.lemmas.Grind.{flat_map-append}
use Rattle.std.proofs.lemmas.List.{append-nil, drop_more, take_more}
use Rattle.std.proofs.lemmas.List.Concat.{flat_map-cons}
use Rattle.order_grammar.specs.Keyword.{text_of_keyword}
use Rattle.order_grammar.specs.Print.{AddsPrefix, spaced, text_of_value, words_text, joined}
use Rattle.order_grammar.specs.declared.keyword.Keyword.{Keyword}
use Rattle.order_grammar.specs.declared.order.Value.{Value}

-- what holds also holds at an error
pub at_error : {T E P : Type 0} (r : Result T E) → P → OnErr r P
at_error (Ok x) p = tt
at_error (Err e) p = p

-- what was added after another piece
pub two_added : (old new first second : List ℕ) → new ≡ old ++ first → new ++ second ≡ old ++ (first ++ second)
two_added old new first second e = ap (λ (text : List ℕ). text ++ second) e ∙ append_assoc old first second

-- nothing was added
pub none_added : (old new text : List ℕ) → new ≡ old → AddsPrefix old new text
none_added old new text e = record { prefix = []; rest = text; added = e ∙ sym (append-nil old); whole = refl }

-- a prefix of a first piece is a prefix of both
pub prefix_of_first : (old new first second : List ℕ) → AddsPrefix old new first → AddsPrefix old new (first ++ second)
prefix_of_first old new first second adds =
    record {
      prefix = adds.prefix;
      rest = adds.rest ++ second;
      added = adds.added;
      whole =
          ap (λ (text : List ℕ). text ++ second) adds.whole ∙ append_assoc adds.prefix adds.rest second;
    }

-- a first piece, and a prefix of the second
pub prefix_of_second : (old mid new first second : List ℕ) → mid ≡ old ++ first → AddsPrefix mid new second
    → AddsPrefix old new (first ++ second)
prefix_of_second old mid new first second before adds =
    record {
      prefix = first ++ adds.prefix;
      rest = adds.rest;
      added = adds.added ∙ two_added old mid first adds.prefix before;
      whole = ap (λ (text : List ℕ). first ++ text) adds.whole ∙ sym (append_assoc first adds.prefix adds.rest);
    }

-- words are printed one after another
pub spaced-parted : (words : List (List ℕ)) (count : ℕ)
    → spaced words ≡ spaced (take count words) ++ spaced (drop count words)
spaced-parted words count =
    ap spaced (sym (take-append-drop count words))
    ∙ flat_map-append (λ (word : List ℕ). 32 ∷ word) (take count words) (drop count words)

-- the next of them
spaced-next : (words : List (List ℕ)) (count : ℕ) (word : List ℕ) → count < length words
    → word ≡ get_or words count [] →
    spaced (drop count words) ≡ (32 ∷ word) ++ spaced (drop (count + 1) words)
spaced-next words count word more is =
    ap spaced (drop_more words count [] more) ∙ flat_map-cons (λ (w : List ℕ). 32 ∷ w) (get_or words count [])
    (drop (count + 1) words)
    ∙ ap (λ (w : List ℕ). (32 ∷ w) ++ spaced (drop (count + 1) words)) (sym is)

-- some of the words
pub words_prefix : (old new : List ℕ) (words : List (List ℕ)) (count : ℕ) → new ≡ old ++ spaced (take count words)
    → AddsPrefix old new (spaced words)
words_prefix old new words count added =
    record {
      prefix = spaced (take count words);
      rest = spaced (drop count words);
      added = added;
      whole =
          spaced-parted words count;
    }

-- some of them, a space and a prefix of the next
pub words_and_prefix : (old before mid new : List ℕ) (words : List (List ℕ)) (count : ℕ) (word : List ℕ)
    → count < length words → word ≡ get_or words count [] →
    before ≡ old ++ spaced (take count words) → mid ≡ before ++ 32 ∷ [] → AddsPrefix mid new word
    → AddsPrefix old new (spaced words)
words_and_prefix old before mid new words count word more is so_far space adds =
    let whole : spaced words ≡ (spaced (take count words) ++ 32 ∷ []) ++ (word ++ spaced (drop (count + 1) words)) =
    spaced-parted words count ∙ ap (λ (text : List ℕ). spaced (take count words) ++ text)
    (spaced-next words count word more is)
    ∙ sym (append_assoc (spaced (take count words)) (32 ∷ []) (word ++ spaced (drop (count + 1) words))) in
    let added : mid ≡ old ++ (spaced (take count words) ++ 32 ∷ []) =
    space ∙ two_added old before (spaced (take count words)) (32 ∷ []) so_far in
    rw whole
    (prefix_of_second old mid new (spaced (take count words) ++ 32 ∷ []) (word ++ spaced (drop (count + 1) words))
    added (prefix_of_first mid new word (spaced (drop (count + 1) words)) adds))

-- one more word
pub words_more : (old before mid new : List ℕ) (words : List (List ℕ)) (count : ℕ) (word : List ℕ)
    → count < length words → word ≡ get_or words count [] →
    before ≡ old ++ spaced (take count words) → mid ≡ before ++ 32 ∷ [] → new ≡ mid ++ word
    → new ≡ old ++ spaced (take (count + 1) words)
words_more old before mid new words count word more is so_far space added =
    let next : spaced (take (count + 1) words) ≡ spaced (take count words) ++ 32 ∷ word =
    ap spaced (take_more words count [] more) ∙ flat_map-append (λ (w : List ℕ). 32 ∷ w) (take count words)
    (get_or words count [] ∷ [])
    ∙ ap (λ (text : List ℕ). spaced (take count words) ++ text)
    (flat_map-cons (λ (w : List ℕ). 32 ∷ w) (get_or words count []) [] ∙ append-nil (32 ∷ get_or words count [])
    ∙ ap (λ (w : List ℕ). 32 ∷ w) (sym is)) in
    added ∙ ap (λ (text : List ℕ). text ++ word) (space
    ∙ two_added old before (spaced (take count words)) (32 ∷ []) so_far)
    ∙ append_assoc old (spaced (take count words) ++ 32 ∷ []) word
    ∙ ap (λ (text : List ℕ). old ++ text) (append_assoc (spaced (take count words)) (32 ∷ []) word ∙ sym next)

-- a literal word and values, and then further words
words_joined : (keyword : Keyword) (values : List Value) (words : List (List ℕ)) →
    joined (text_of_keyword keyword ∷ map text_of_value values ++ words) ≡ words_text keyword values ++ spaced words
words_joined keyword values words =
    let first = text_of_keyword keyword in
    let texts = map text_of_value values in
    ap (λ (text : List ℕ). first ++ text) (flat_map-append (λ (word : List ℕ). 32 ∷ word) texts words)
    ∙ sym (append_assoc first (spaced texts) (spaced words))

-- a prefix of a literal word and values, before further words
pub words_first_prefix : (old new : List ℕ) (keyword : Keyword) (values : List Value) (words : List (List ℕ)) →
    AddsPrefix old new (words_text keyword values) →
    AddsPrefix old new (joined (text_of_keyword keyword ∷ map text_of_value values ++ words))
words_first_prefix old new keyword values words adds =
    subst (λ (text : List ℕ). AddsPrefix old new text) (sym (words_joined keyword values words))
    (prefix_of_first old new (words_text keyword values) (spaced words) adds)

-- a prefix of further words after a literal word and values
pub words_then_prefix : (old mid new : List ℕ) (keyword : Keyword) (values : List Value) (words : List (List ℕ)) →
    mid ≡ old ++ words_text keyword values → AddsPrefix mid new (spaced words) →
    AddsPrefix old new (joined (text_of_keyword keyword ∷ map text_of_value values ++ words))
words_then_prefix old mid new keyword values words begun adds =
    subst (λ (text : List ℕ). AddsPrefix old new text) (sym (words_joined keyword values words))
    (prefix_of_second old mid new (words_text keyword values) (spaced words) begun adds)
