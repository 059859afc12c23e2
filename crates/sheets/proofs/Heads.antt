-- A line that opens a part of a sheet begins with the word of heads.
use Rattle.std.proofs.Common.{◌≡◌, ◌↔◌, ℕ, true, false, List, [], ◌∷◌, Option, Some, None, Result, Ok, Err, codes, ltb, ◌≤◌, ◌++◌}
use Rattle.std.proofs.Common.{inl, inr, refl, sym, ap, subst, ◌∙◌}
use Rattle.std.specs.List.{list_all}
use Rattle.std.specs.Prelude.{IfSome, is_some, not}
use Rattle.std.proofs.lemmas.Bool.{cases_Bool, false≢true, le-ltb}
use Rattle.order_grammar.proofs.PartLemmas.{passed}
use Rattle.order_grammar.specs.Condition.{Ordered}
use Rattle.order_grammar.specs.Spells.{AreWordsFor, IsWord, Then}
use Rattle.order_grammar.specs.SpellsVersion.{AreConditionWords, AreOrderWords, AreWordsUnder, SpellsInVersion}
use Rattle.order_grammar.specs.Texts.{play_words}
use Rattle.order_grammar.specs.Version.{reading_in}
use Rattle.order_grammar.specs.Words.{first_of_words, same_word, words_of}
use Rattle.order_grammar.specs.declared.condition.Condition.{Condition}
use Rattle.order_grammar.specs.declared.condition.Condition.TheVariants.{Price, Phase, Floated}
use Rattle.order_grammar.specs.declared.condition.Version.{Version}
use Rattle.order_grammar.specs.declared.condition.Version.TheVariants.{One, Two}
use Rattle.order_grammar.specs.declared.fault.Fault.{Fault}
use Rattle.order_grammar.specs.declared.fault.Fault.TheVariants.{PastLastLine}
use Rattle.order_grammar.specs.declared.order.Order.{Order}
use Rattle.order_grammar.specs.declared.order.Order.TheVariants as order
use Rattle.sheets.specs.CompanyOrders.{opens_orders_of}
use Rattle.sheets.specs.Limits.{lines_most}
use Rattle.sheets.specs.Part.{head_word, is_company, is_turn, opens_part, reading_at}
use Rattle.sheets.specs.Reading.{order_read}
use Rattle.tables.specs.Roster.{code_of_company}
use Rattle.tables.specs.declared.roster.Company.{Company}
use Rattle.tables.specs.declared.roster.Company.TheVariants as company
use Rattle.tables.specs.declared.round.Round.{Round}
use Rattle.tables.specs.declared.round.Round.TheVariants as round

-- a line is read as an order under a condition exactly if it spells that
abbrev pub ReadWhereSpelt : Type 0
ReadWhereSpelt = (version : Version) (line : List ℕ) (spelt : Ordered)
    → (reading_in version line ≡ Ok spelt) ↔ SpellsInVersion version line spelt

-- words whose first is this one begin with it
begins : (word : List ℕ) (others : List (List ℕ) → Type 0) (words : List (List ℕ)) → same_word word word ≡ true
    → Then (IsWord word) others words →
    same_word (first_of_words words) word ≡ true
begins word others [] same is = absurd is
begins word others (first ∷ words) same is = ap (λ (w : List ℕ). same_word w word) is.0 ∙ same

-- the words after a condition
behind : (condition : Condition) (order : Order) (words : List (List ℕ))
    → AreConditionWords condition (AreOrderWords order) words →
    (rest : List (List ℕ)) × AreOrderWords order rest
behind (Price company price) order [] are = absurd are
behind (Price company price) order (a ∷ []) are = absurd are.1
behind (Price company price) order (a ∷ b ∷ []) are = absurd are.1.1
behind (Price company price) order (a ∷ b ∷ c ∷ []) are = absurd are.1.1.1
behind (Price company price) order (a ∷ b ∷ c ∷ d ∷ rest) are = (rest, are.1.1.1.1)
behind (Phase kind) order [] are = absurd are
behind (Phase kind) order (a ∷ []) are = absurd are.1
behind (Phase kind) order (a ∷ b ∷ rest) are = (rest, are.1.1)
behind (Floated company) order [] are = absurd are
behind (Floated company) order (a ∷ []) are = absurd are.1
behind (Floated company) order (a ∷ b ∷ rest) are = (rest, are.1.1)

-- an order whose first word is after no condition
module _ (order : Order) (word : List ℕ) (others : List (List ℕ) → Type 0)
    (are_head : (words : List (List ℕ)) → AreWordsFor order words → Then (IsWord word) others words)
    (same : same_word word word ≡ true) (apart : list_all (λ (w : List ℕ). not (same_word w word)) play_words
    ≡ true) where
  -- is after none
  none_behind : (words : List (List ℕ)) → AreOrderWords order words → ⊥
  none_behind [] are = absurd are.0
  none_behind (first ∷ rest) are =
      let is : first ≡ word = (are_head (first ∷ rest) are.1).0 in
      let other : not (same_word first word) ≡ true =
      passed (λ (w : List ℕ). not (same_word w word)) play_words first apart are.0 in
      let wrong : false ≡ true = sym (ap (λ (w : List ℕ). not (same_word w word)) is ∙ ap not same) ∙ other in
      absurd cc

  -- so its line begins with that word
  begins_with : (version : Version) (condition : Option Condition) (words : List (List ℕ))
      → AreWordsUnder version condition order words →
      same_word (first_of_words words) word ≡ true
  begins_with One None words are = begins word others words same (are_head words are.1)
  begins_with Two None words are = begins word others words same (are_head words are.1)
  begins_with One (Some condition) words are = absurd are
  begins_with Two (Some condition) [] are = absurd are
  begins_with Two (Some condition) (first ∷ rest) are =
      let last = behind condition order rest are.1 in absurd (none_behind last.0 last.1)

  -- a line that begins with another is not read as it
  pub not_read : ReadWhereSpelt → (version : Version) (line : List ℕ) (spelt : Ordered)
      → same_word (first_of_words (words_of line)) word ≡ false →
      reading_in version line ≡ Ok spelt → spelt.order ≡ order → ⊥
  not_read law version line spelt differs read is =
      let words = ((law version line spelt).0 read).loosely.words in
      let under : AreWordsUnder version spelt.condition order (words_of line) =
      subst (λ (o : Order). AreWordsUnder version spelt.condition o (words_of line)) is words
      in
      let wrong : true ≡ false = sym (begins_with version spelt.condition (words_of line) under) ∙ differs in
      absurd cc

module _ (law : ReadWhereSpelt) (version : Version) (line : List ℕ) where
  -- a line that does not begin with COMPANY is not read as one
  no_company_order : (spelt : Ordered) (is : Order)
      → same_word (first_of_words (words_of line)) (codes "COMPANY") ≡ false →
      reading_in version line ≡ Ok spelt → spelt.order ≡ is → is_company (Ok is) ≡ false
  no_company_order spelt (order.Company company) differs read is =
      absurd (not_read (order.Company company) (codes "COMPANY") _ (λ words are. are) refl refl law version line spelt
      differs read is)
  no_company_order spelt other differs read is = refl

  no_company : (reading : Result Ordered Fault) → same_word (first_of_words (words_of line)) (codes "COMPANY") ≡ false →
      reading_in version line ≡ reading → is_company (order_read reading) ≡ false
  no_company (Ok spelt) differs read = no_company_order spelt spelt.order differs read refl
  no_company (Err fault) differs read = refl

  -- a line that does not begin with TURN is not read as one
  no_turn_order : (spelt : Ordered) (is : Order) → same_word (first_of_words (words_of line)) (codes "TURN") ≡ false →
      reading_in version line ≡ Ok spelt → spelt.order ≡ is → is_turn (Ok is) ≡ false
  no_turn_order spelt order.Turn differs read is =
      absurd (not_read order.Turn (codes "TURN") _ (λ words are. are) refl refl law version line spelt differs read is)
  no_turn_order spelt other differs read is = refl

  no_turn : (reading : Result Ordered Fault) → same_word (first_of_words (words_of line)) (codes "TURN") ≡ false →
      reading_in version line ≡ reading → is_turn (order_read reading) ≡ false
  no_turn (Ok spelt) differs read = no_turn_order spelt spelt.order differs read refl
  no_turn (Err fault) differs read = refl

  -- nor does it open a part, by itself
  no_part : (round : Round) → same_word (first_of_words (words_of line)) (head_word round) ≡ false →
      opens_part round (order_read (reading_in version line)) ≡ false
  no_part (round.Operating set number) differs = no_company (reading_in version line) differs refl
  no_part (round.Stock number) differs = no_turn (reading_in version line) differs refl
  no_part (round.Opening number) differs = no_turn (reading_in version line) differs refl

-- a line past the last opens none
pub past_opens_none : (round : Round) → opens_part round (Err PastLastLine) ≡ false
past_opens_none (round.Operating set number) = refl
past_opens_none (round.Stock number) = refl
past_opens_none (round.Opening number) = refl

-- a line that does not begin with the word of heads opens no part where it is
pub no_head : ReadWhereSpelt → (round : Round) (version : Version) (number : ℕ) (line : List ℕ)
    → same_word (first_of_words (words_of line)) (head_word round) ≡ false →
    opens_part round (reading_at number (order_read (reading_in version line))) ≡ false
no_head law round version number line differs =
    elim (cases_Bool (ltb lines_most number)) [
      | inl past ↦ rw past (past_opens_none round)
      | inr here ↦ rw here (no_part law version line round differs)
    ]

-- what a line is by itself, it is where it is, if it is not past the last
pub read_here : (number : ℕ) (reading : Result Order Fault) → number ≤ lines_most → reading_at number reading ≡ reading
read_here number reading here =
    let test : ltb lines_most number ≡ false = le-ltb _ _ here in
    rw test refl

-- TURN is read as it is printed
pub turn_read : (version : Version) → order_read (reading_in version (codes "TURN")) ≡ Ok order.Turn
turn_read One = refl
turn_read Two = refl

-- and so is COMPANY with a code
pub company_read : (version : Version) (company : Company)
    → order_read (reading_in version (codes "COMPANY " ++ code_of_company company)) ≡ Ok (order.Company company)
company_read One company.Pennsylvania = refl
company_read One company.NewYorkCentral = refl
company_read One company.CanadianPacific = refl
company_read One company.BaltimoreOhio = refl
company_read One company.ChesapeakeOhio = refl
company_read One company.Erie = refl
company_read One company.NewHaven = refl
company_read One company.BostonMaine = refl
company_read Two company.Pennsylvania = refl
company_read Two company.NewYorkCentral = refl
company_read Two company.CanadianPacific = refl
company_read Two company.BaltimoreOhio = refl
company_read Two company.ChesapeakeOhio = refl
company_read Two company.Erie = refl
company_read Two company.NewHaven = refl
company_read Two company.BostonMaine = refl

-- what is read as TURN opens a part of a sheet of turns
pub turn_opens : (number : ℕ) (reading : Result Order Fault) → reading ≡ Ok order.Turn
    → (opens_part (round.Opening number) reading ≡ true) × (opens_part (round.Stock number) reading ≡ true)
turn_opens number reading is = rw is (refl, refl)

-- what is read as COMPANY opens a part of a sheet of companies' orders
pub company_opens : (set number : ℕ) (found : Option Company) (reading : Result Order Fault)
    → IfSome found (λ company. reading ≡ Ok (order.Company company)) → is_some found ≡ true
    → opens_part (round.Operating set number) reading ≡ true
company_opens set number None reading said some = absurd (false≢true some)
company_opens set number (Some company) reading said some = rw said refl

-- what is read as no company's head opens no company's orders
orders_of_none : (company : Company) (reading : Result Order Fault) → is_company reading ≡ false
    → opens_orders_of company reading ≡ false
orders_of_none company (Ok (order.Company named)) none = absurd cc
orders_of_none company (Ok other) none = refl
orders_of_none company (Err fault) none = refl

-- a line that does not begin with COMPANY opens no company's orders
pub no_orders : ReadWhereSpelt → (company : Company) (version : Version) (number : ℕ) (line : List ℕ)
    → same_word (first_of_words (words_of line)) (codes "COMPANY") ≡ false →
    opens_orders_of company (reading_at number (order_read (reading_in version line))) ≡ false
no_orders law company version number line differs =
    orders_of_none company _ (no_head law (round.Operating 1 1) version number line differs)
