-- The spelling of an order under a condition is a line of its words.
use Rattle.std.proofs.Common.{◌≡◌, ℕ, ◌≤◌, true, not, List, [], ◌∷◌, ◌++◌, Option, Some, None, Ok, codes, length, map}
use Rattle.std.proofs.Common.{append_assoc, refl, sym, ap, subst, ◌∙◌, arith}
use Rattle.std.proofs.lemmas.Bool.{false≢true}
use Rattle.std.proofs.lemmas.List.{length-append, length-map}
use Rattle.std.proofs.lemmas.Grind.{flat_map-append}
use Rattle.map_tables.specs.Text.{text_of_place}
use Rattle.tables.specs.Roster.{code_of_company}
use Rattle.tables.specs.Train.{code_of_kind}
use Rattle.order_grammar.specs.Condition.{condition_values, ordered}
use Rattle.order_grammar.specs.Form.{order_forms}
use Rattle.order_grammar.specs.Keyword.{text_of_keyword}
use Rattle.order_grammar.specs.Limits.{line_most}
use Rattle.order_grammar.specs.Order.{made_of, parts_of, Parts}
use Rattle.order_grammar.specs.Print.{spaced, joined, text_of_value, words_of_order, words_of_parts, spelling_of}
use Rattle.order_grammar.specs.Print.{conditional_spelling}
use Rattle.order_grammar.specs.SpellsVersion.{AreConditionWords, AreOrderWords, AreWordsUnder, BeginAnOrder}
use Rattle.order_grammar.specs.SpellsVersion.{FitsLineUnder, HasSmallCondition, IsOrderUnder}
use Rattle.order_grammar.specs.Texts.{order_file, play_words}
use Rattle.order_grammar.specs.Version.{reading_in}
use Rattle.order_grammar.specs.Words.{same_word}
use Rattle.order_grammar.specs.declared.condition.Condition.{Condition}
use Rattle.order_grammar.specs.declared.condition.Condition.TheVariants.{Price, Phase, Floated}
use Rattle.order_grammar.specs.declared.condition.Version.TheVariants.{Two}
use Rattle.order_grammar.specs.declared.keyword.Keyword.{Keyword}
use Rattle.order_grammar.specs.declared.keyword.Keyword.TheVariants as keyword
use Rattle.order_grammar.specs.declared.order.Order.{Order}
use Rattle.order_grammar.specs.declared.order.Offer.TheVariants as offer
use Rattle.order_grammar.specs.declared.order.Order.TheVariants.{Play, Run, Claim}
use Rattle.order_grammar.specs.declared.order.Trailing.{Trailing}
use Rattle.order_grammar.specs.declared.order.Trailing.TheVariants as trailing
use Rattle.order_grammar.specs.declared.order.TrainSource.TheVariants as source
use Rattle.order_grammar.specs.declared.order.Value.{Value}
use Rattle.order_grammar.specs.declared.play.PlayOrder.TheVariants.{BuyTrain, Offer}
use Rattle.order_grammar.proofs.HasWords.{has_words, have_words}
use Rattle.order_grammar.proofs.PartLemmas.{passed, rows_of_orders}
use Rattle.order_grammar.proofs.SpellsLemmas.{read_spells}
use Rattle.order_grammar.proofs.VersionLemmas.{spells_read_in}
use Rattle.order_grammar.proofs.SpellingLemmas.{ArePlain, few_fit, joined_line, decimal_number, decimal_plain}
use Rattle.order_grammar.proofs.SpellingLemmas.{plain_word, company_plain, kind_plain, spelt_out, spelling_read}
use Rattle.order_grammar.proofs.SpellingLemmas.{spaced-cons, IsFew}

-- the words of a condition after IF
abbrev words_of_condition : Condition → List (List ℕ)
words_of_condition condition = map text_of_value (condition_values condition)

-- the words of a line with a condition, with these after them
abbrev under_words : Condition → List (List ℕ) → List (List ℕ)
under_words condition words = text_of_keyword keyword.If ∷ (words_of_condition condition ++ words)

condition_few : (condition : Condition) → length (words_of_condition condition) ≤ 4
condition_few (Price co price) = omega arith
condition_few other = omega arith

-- a condition is spelt by its words, which are plain
condition_plain : (condition : Condition) (words : List (List ℕ)) → HasSmallCondition (Some condition) →
    ArePlain words →
    ArePlain (words_of_condition condition ++ words)
unfolding ArePlain
condition_plain (Price co price) words small plain = (
  plain_word (text_of_keyword keyword.Price) refl,
  (
    plain_word (code_of_company co) (company_plain co),
    (plain_word (text_of_keyword keyword.AtLeast) refl, (decimal_plain price small, plain)),
  ),
)
condition_plain (Phase k) words small plain =
    (plain_word (text_of_keyword keyword.Phase) refl, (plain_word (code_of_kind k) (kind_plain k), plain))
condition_plain (Floated co) words small plain =
    (plain_word (text_of_keyword keyword.Floated) refl, (plain_word (code_of_company co) (company_plain co), plain))

condition_spelt : (condition : Condition) (order : Order) (words : List (List ℕ)) →
    HasSmallCondition (Some condition) → AreOrderWords order words →
    AreConditionWords condition (AreOrderWords order) (words_of_condition condition ++ words)
condition_spelt (Price co price) order words small are = (refl, (refl, (refl, (decimal_number price small, are))))
condition_spelt (Phase k) order words small are = (refl, (refl, are))
condition_spelt (Floated co) order words small are = (refl, (refl, are))

-- a prefix and words after it, with single spaces between them
spaced-behind : (first : List ℕ) (words : List (List ℕ)) (next : List ℕ) (rest : List (List ℕ)) →
    joined (first ∷ words) ++ codes " " ++ joined (next ∷ rest) ≡ joined (first ∷ (words ++ next ∷ rest))
spaced-behind first words next rest =
    append_assoc (first ++ spaced words) (codes " ") (next ++ spaced rest)
    ∙ append_assoc first (spaced words) (codes " " ++ (next ++ spaced rest))
    ∙ ap (λ (text : List ℕ). first ++ text)
    (sym (flat_map-append (λ (w : List ℕ). 32 ∷ w) words (next ∷ rest)
    ∙ ap (λ (text : List ℕ). spaced words ++ text) (spaced-cons next rest)))

-- parts with the places of a run fit a line under a condition
abbrev FitUnderWith : Condition → Keyword → List Value → Trailing → Type 0
FitUnderWith condition k values (trailing.Places run) =
    length (joined (under_words condition (words_of_parts (made_of k values (trailing.Places run))))) ≤ line_most
FitUnderWith condition k values t = Unit {0}

abbrev FitUnder : Condition → Option Parts → Type 0
FitUnder condition None = Unit {0}
FitUnder condition (Some parts) = FitUnderWith condition parts.keyword parts.values parts.trailing

-- so do those of an order that does
fits_under : (condition : Condition) (order : Order) → FitsLineUnder condition order →
    BeginAnOrder (words_of_parts (parts_of order)) →
    FitUnder condition (parts_of order)
fits_under condition (Run k run) fits begins =
    subst (λ (line : List ℕ). length line ≤ line_most)
    (spaced-behind (text_of_keyword keyword.If) (words_of_condition condition) (text_of_keyword keyword.Run)
    (code_of_kind k ∷ map text_of_place run)) fits
fits_under condition (Claim k run) fits begins =
    absurd (false≢true (passed (λ (word : List ℕ). not (same_word word (codes "CLAIM"))) play_words (codes "CLAIM")
    refl begins))
fits_under condition (Play (BuyTrain kind source.Bank)) fits begins = tt
fits_under condition (Play (Offer (offer.Train kind seller buyer price))) fits begins = tt
fits_under condition other fits begins = tt

-- words under a condition fit a line
under_fit : (condition : Condition) (k : Keyword) (values : List Value) (t : Trailing) → length values ≤ 5 → IsFew t →
    ArePlain (under_words condition (words_of_parts (made_of k values t))) → FitUnderWith condition k values t →
    length (joined (under_words condition (words_of_parts (made_of k values t)))) ≤ line_most
under_fit condition k values trailing.Nothing five few plain fits =
    let size = length-append (words_of_condition condition) (words_of_parts (made_of k values trailing.Nothing)) in
    let own = length-append (map text_of_value values) [] in
    let short = few_fit _ plain (omega (
      arith,
      size,
      own,
      condition_few condition,
      length-map values text_of_value,
      five,
    )) in
    omega (arith, short)
under_fit condition k values (trailing.Names names) five few plain fits =
    let size = length-append (words_of_condition condition) (words_of_parts (made_of k values (trailing.Names names)))
    in
    let own = length-append (map text_of_value values) names.items in
    let short = few_fit _ plain (omega (
      arith,
      size,
      own,
      condition_few condition,
      length-map values text_of_value,
      five,
      few,
    )) in
    omega (arith, short)
under_fit condition k values (trailing.Places run) five few plain fits = fits

-- parts of a form that have words are read as what they make, under the condition
parts_read_under : (condition : Condition) (order : Order) (parts : Option Parts) → parts_of order ≡ parts →
    have_words parts ≡ true →
    HasSmallCondition (Some condition) → FitUnder condition parts → BeginAnOrder (words_of_parts parts) →
    reading_in Two (joined (under_words condition (words_of_parts parts))) ≡ Ok (ordered (Some condition) order)
unfolding ArePlain
parts_read_under condition order None is has small fits begins = absurd begins
parts_read_under condition order (Some parts) is has small fits begins =
    let spelt = spelt_out order parts is has in
    let behind = words_of_parts (Some parts) in
    let words = under_words condition behind in
    let plain : ArePlain words = (
      plain_word (text_of_keyword keyword.If) refl,
      condition_plain condition behind small spelt.plain,
    ) in
    let line = joined_line words plain in
    let are : AreWordsUnder Two (Some condition) order words =
    (refl, condition_spelt condition order behind small (begins, spelt.are)) in
    spells_read_in Two (joined words) (ordered (Some condition) order) (record {
      loosely = record {
        short = under_fit condition parts.keyword parts.values parts.trailing spelt.five spelt.few plain fits;
        printable = line.printable;
        words = subst (AreWordsUnder Two (Some condition) order) (sym line.are) are;
      };
      small = (small, spelt.small);
    })

-- the spelling of an order under a condition is what its words are with single spaces between them
spelling_joined : (condition : Condition) (order : Order) (words : List (List ℕ)) → words_of_order order ≡ words →
    BeginAnOrder words →
    conditional_spelling (Some condition) order ≡ joined (under_words condition words)
spelling_joined condition order [] is begins = absurd begins
spelling_joined condition order (next ∷ rest) is begins =
    ap (λ (ws : List (List ℕ)). joined (text_of_keyword keyword.If ∷ words_of_condition
    condition) ++ codes " " ++ joined ws) is
    ∙ spaced-behind (text_of_keyword keyword.If) (words_of_condition condition) next rest

-- the spelling of an order under a condition, if there is one, is read as that in version 2
pub spelling_read_in : (condition : Option Condition) (order : Order) → IsOrderUnder condition order →
    reading_in Two (conditional_spelling condition order) ≡ Ok (ordered condition order)
spelling_read_in None order is =
    let line = spelling_of order in
    let spelt = read_spells order_file order_forms rows_of_orders line order
    (spelling_read order_file order_forms rows_of_orders (omega arith) order is) in
    spells_read_in Two line (ordered None order) (record {
      loosely = record {
        short = spelt.loosely.short;
        printable = spelt.loosely.printable;
        words =
            (spelt.loosely.known, spelt.loosely.words);
      };
      small = (tt, spelt.small);
    })
spelling_read_in (Some condition) order is =
    ap (reading_in Two) (spelling_joined condition order (words_of_order order) refl is.3)
    ∙ parts_read_under condition order (parts_of order) refl (has_words order is.1) is.0
    (fits_under condition order is.2 is.3) is.3
