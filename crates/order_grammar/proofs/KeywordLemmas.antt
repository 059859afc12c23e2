-- Words and keywords that are the same.
use Rattle.std.proofs.Common.{◌≡◌, ℕ, ◌+◌, ◌<◌, ◌≤◌, ◌==◌, true, false, cond, List, [], ◌∷◌, Option, Some}
use Rattle.std.proofs.Common.{drop, get_or, length, refl, sym, ap, ◌∙◌, arith}
use Rattle.std.proofs.lemmas.Bool.{and_parts, eqb-true, eq-eqb, false≢true, false_from_ne_true}
use Rattle.std.proofs.lemmas.List.{drop_more}
use Rattle.std.specs.Char.{to_ascii_uppercase}
use Rattle.std.specs.List.{filter}
use Rattle.order_grammar.specs.Keyword.{all_keywords, beginning_with, begins_with, keyword_of}
use Rattle.order_grammar.specs.Keyword.{spelt_of, text_of_keyword}
use Rattle.order_grammar.specs.Words.{raised, same_word}
use Rattle.order_grammar.specs.declared.keyword.Keyword.{Keyword}
use Rattle.order_grammar.specs.declared.keyword.Keyword.TheVariants as keyword

-- words that are the same
pub same_word-is : (a b : List ℕ) → same_word a b ≡ true → a ≡ b
same_word-is [] [] e = refl
same_word-is [] (y ∷ ys) e = absurd cc
same_word-is (x ∷ xs) [] e = absurd cc
same_word-is (x ∷ xs) (y ∷ ys) e =
    let parts = and_parts (x == y) (same_word xs ys) e in
    let head : x ≡ y = eqb-true x y parts.0 in
    let trailing = same_word-is xs ys parts.1 in
    rw (head, trailing) refl

-- a word is the same as itself
pub same_word-self : (word : List ℕ) → same_word word word ≡ true
same_word-self [] = refl
same_word-self (byte ∷ bytes) = rw (eq-eqb byte byte refl, same_word-self bytes) refl

-- keywords of the same text are the same
pub same_keyword : (a b : Keyword) → same_word (text_of_keyword a) (text_of_keyword b) ≡ true → a ≡ b
same_keyword keyword.Game keyword.Game same = refl
same_keyword keyword.Players keyword.Players same = refl
same_keyword keyword.Sheet keyword.Sheet same = refl
same_keyword keyword.Turn keyword.Turn same = refl
same_keyword keyword.Buy keyword.Buy same = refl
same_keyword keyword.Bid keyword.Bid same = refl
same_keyword keyword.Limit keyword.Limit same = refl
same_keyword keyword.Par keyword.Par same = refl
same_keyword keyword.Sell keyword.Sell same = refl
same_keyword keyword.Exchange keyword.Exchange same = refl
same_keyword keyword.Company keyword.Company same = refl
same_keyword keyword.Lay keyword.Lay same = refl
same_keyword keyword.Token keyword.Token same = refl
same_keyword keyword.Run keyword.Run same = refl
same_keyword keyword.Pay keyword.Pay same = refl
same_keyword keyword.Withhold keyword.Withhold same = refl
same_keyword keyword.Train keyword.Train same = refl
same_keyword keyword.Discard keyword.Discard same = refl
same_keyword keyword.Private keyword.Private same = refl
same_keyword keyword.Raise keyword.Raise same = refl
same_keyword keyword.Offer keyword.Offer same = refl
same_keyword keyword.Certs keyword.Certs same = refl
same_keyword keyword.Cert keyword.Cert same = refl
same_keyword keyword.Claim keyword.Claim same = refl
same_keyword keyword.Marks keyword.Marks same = refl
same_keyword keyword.InitialOffering keyword.InitialOffering same = refl
same_keyword keyword.Pool keyword.Pool same = refl
same_keyword keyword.Mohawk keyword.Mohawk same = refl
same_keyword keyword.Swap keyword.Swap same = refl
same_keyword keyword.Bank keyword.Bank same = refl
same_keyword keyword.Trade keyword.Trade same = refl
same_keyword keyword.Best keyword.Best same = refl
same_keyword keyword.One keyword.One same = refl
same_keyword keyword.If keyword.If same = refl
same_keyword keyword.Price keyword.Price same = refl
same_keyword keyword.AtLeast keyword.AtLeast same = refl
same_keyword keyword.Phase keyword.Phase same = refl
same_keyword keyword.Floated keyword.Floated same = refl
same_keyword a b same = absurd (false≢true same)

-- the text of each keyword spells it
pub keyword_of-text : (k : Keyword) → keyword_of (text_of_keyword k) ≡ Some k
keyword_of-text keyword.Game = refl
keyword_of-text keyword.Players = refl
keyword_of-text keyword.Sheet = refl
keyword_of-text keyword.Turn = refl
keyword_of-text keyword.Buy = refl
keyword_of-text keyword.Bid = refl
keyword_of-text keyword.Limit = refl
keyword_of-text keyword.Par = refl
keyword_of-text keyword.Sell = refl
keyword_of-text keyword.Exchange = refl
keyword_of-text keyword.Company = refl
keyword_of-text keyword.Lay = refl
keyword_of-text keyword.Token = refl
keyword_of-text keyword.Run = refl
keyword_of-text keyword.Pay = refl
keyword_of-text keyword.Withhold = refl
keyword_of-text keyword.Train = refl
keyword_of-text keyword.Discard = refl
keyword_of-text keyword.Private = refl
keyword_of-text keyword.Raise = refl
keyword_of-text keyword.Offer = refl
keyword_of-text keyword.Certs = refl
keyword_of-text keyword.Cert = refl
keyword_of-text keyword.Claim = refl
keyword_of-text keyword.Marks = refl
keyword_of-text keyword.InitialOffering = refl
keyword_of-text keyword.Pool = refl
keyword_of-text keyword.Mohawk = refl
keyword_of-text keyword.Swap = refl
keyword_of-text keyword.Bank = refl
keyword_of-text keyword.Trade = refl
keyword_of-text keyword.Best = refl
keyword_of-text keyword.One = refl
keyword_of-text keyword.If = refl
keyword_of-text keyword.Price = refl
keyword_of-text keyword.AtLeast = refl
keyword_of-text keyword.Phase = refl
keyword_of-text keyword.Floated = refl

-- a word that is the text of a keyword spells that
pub keyword_of-same : (word : List ℕ) (k : Keyword) → same_word word (text_of_keyword k) ≡ true
    → keyword_of word ≡ Some k
keyword_of-same word k same = ap keyword_of (same_word-is word _ same) ∙ keyword_of-text k

-- a word is the text of the first of some keywords that it spells
found_same : (word : List ℕ) (k : Keyword) (ks : List Keyword) → spelt_of word ks ≡ Some k
    → same_word word (text_of_keyword k) ≡ true
found_same word k [] is = absurd cc
found_same word k (other ∷ ks) is =
    (elim (same_word word (text_of_keyword other)) as (λ b. same_word word (text_of_keyword other) ≡ b
    → cond b (Some other) (spelt_of word ks) ≡ Some k → same_word word (text_of_keyword k) ≡ true) [
      | true ↦ λ same found. let one : other ≡ k = cc in rw (← one) same
      | false ↦ λ same found. found_same word k ks found
    ]) refl is

-- a word is the text of the keyword that it spells
pub same-keyword_of : (word : List ℕ) (k : Keyword) → keyword_of word ≡ Some k
    → same_word word (text_of_keyword k) ≡ true
same-keyword_of word k is = found_same word k all_keywords is

-- a word that is the same as a text begins as it does
begins_alike : (byte : ℕ) (bytes text : List ℕ) → begins_with byte text ≡ false
    → same_word (byte ∷ bytes) text ≡ false
begins_alike byte bytes [] other = refl
begins_alike byte bytes (first ∷ text) other =
    false_from_ne_true _ (λ same.
    let one : byte ≡ first = eqb-true byte first (and_parts (byte == first) (same_word bytes text) same).0 in
    let wrong : true ≡ false = sym (eq-eqb first byte (sym one)) ∙ other in absurd cc)

-- of some keywords only those whose text begins as a word does can be spelt by it
pub spelt-beginning : (byte : ℕ) (bytes : List ℕ) (ks : List Keyword)
    → spelt_of (byte ∷ bytes) (filter (λ k. begins_with byte (text_of_keyword k)) ks) ≡ spelt_of (byte ∷ bytes) ks
spelt-beginning byte bytes [] = refl
spelt-beginning byte bytes (k ∷ ks) =
    (elim (begins_with byte (text_of_keyword k)) as (λ b. begins_with byte (text_of_keyword k) ≡ b
    → spelt_of (byte ∷ bytes) (cond b (k ∷ filter (λ k. begins_with byte (text_of_keyword k)) ks)
    (filter (λ k. begins_with byte (text_of_keyword k)) ks)) ≡ spelt_of (byte ∷ bytes) (k ∷ ks)) [
      | true ↦ λ _. ap (cond (same_word (byte ∷ bytes) (text_of_keyword k)) (Some k)) (spelt-beginning byte bytes ks)
      | false ↦ λ other. spelt-beginning byte bytes ks ∙ ap (λ b. cond b (Some k) (spelt_of (byte ∷ bytes) ks))
          (sym (begins_alike byte bytes (text_of_keyword k) other))
    ]) refl

-- the keywords are looked for among those that begin with the word's first byte
pub spelt_is : (word : List ℕ) (byte : ℕ) (ks : List Keyword) (found : Option Keyword) → 1 ≤ length word
    → byte ≡ to_ascii_uppercase (get_or word 0 0) → ks ≡ beginning_with byte → found ≡ spelt_of (raised word) ks
    → found ≡ keyword_of (raised word)
spelt_is [] byte ks found some is among spelt = absurd (omega (arith, some))
spelt_is (first ∷ word) byte ks found some is among spelt =
    spelt ∙ (ap (spelt_of (raised (first ∷ word))) (among ∙ ap beginning_with is)
    ∙ spelt-beginning (to_ascii_uppercase first) (raised word) all_keywords)

-- one of them is not it
pub spelt-next : (word : List ℕ) (ks : List Keyword) (i : ℕ) (d : Keyword) → i < length ks
    → same_word word (text_of_keyword (get_or ks i d)) ≡ false
    → spelt_of word (drop i ks) ≡ spelt_of word (drop (i + 1) ks)
spelt-next word ks i d lt other = rw (drop_more ks i d lt, other) refl

-- one of them is it
pub spelt-here : (word : List ℕ) (ks : List Keyword) (i : ℕ) (d : Keyword) → i < length ks
    → same_word word (text_of_keyword (get_or ks i d)) ≡ true
    → spelt_of word (drop i ks) ≡ Some (get_or ks i d)
spelt-here word ks i d lt here = rw (drop_more ks i d lt, here) refl
