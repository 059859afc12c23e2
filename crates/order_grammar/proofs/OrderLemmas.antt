-- Orders and their parts: an order is made of its parts, and words spell it as they spell those.
use Rattle.std.proofs.Common.{◌≡◌, ℕ, Bool, true, false, inl, inr, List, [], ◌∷◌, Option, Some, None, length, map}
use Rattle.std.proofs.Common.{refl}
use Rattle.std.specs.List.{list_any}
use Rattle.std.proofs.lemmas.Bool.{cases_Bool, false≢true, le-leb, leb-true, and_parts}
use Rattle.map_tables.specs.declared.hex.Hex.{Hex}
use Rattle.map_tables.specs.Text.{text_of_place}
use Rattle.map_tables.specs.declared.place.Place.{Place}
use Rattle.map_tables.specs.declared.side.Rotation.{Rotation}
use Rattle.map_tables.specs.declared.tiles.TileNo.{TileNo}
use Rattle.tables.specs.declared.rolling_stock.Kind.{Kind}
use Rattle.order_grammar.specs.Form.{forms, is_row_of, is_run_length, has_form, are_names}
use Rattle.order_grammar.specs.Keyword.{text_of_keyword}
use Rattle.order_grammar.specs.Order.{lay_of, made_of, parts_of, order_from, Parts}
use Rattle.order_grammar.specs.Spells.{IsWord, IsNumber, IsName, IsRoundOfLine, IsPrivate, IsCompany, IsKind, IsTile}
use Rattle.order_grammar.specs.Spells.{IsHex, IsRotation, IsPlace, AreHexDigits, AreNames, Then, End, AreWordsFor}
use Rattle.order_grammar.specs.declared.keyword.Keyword.{Keyword}
use Rattle.order_grammar.specs.declared.keyword.Keyword.TheVariants as keyword
use Rattle.order_grammar.specs.declared.order.Order.{Order}
use Rattle.order_grammar.specs.declared.order.Order.TheVariants.{Blank, Game, Players, Sheet, Turn}
use Rattle.order_grammar.specs.declared.order.Order.TheVariants.{Company as CompanyTurn, Run, Certs, Cert, Claim}
use Rattle.order_grammar.specs.declared.order.Order.TheVariants.{Marks, Play}
use Rattle.order_grammar.specs.declared.order.Offer.TheVariants as offer
use Rattle.order_grammar.specs.declared.order.ShareSource.TheVariants.{InitialOffering, BankPool}
use Rattle.order_grammar.specs.declared.order.Trailing.{Trailing}
use Rattle.order_grammar.specs.declared.order.Trailing.TheVariants as trailing
use Rattle.order_grammar.specs.declared.order.TrainSource.TheVariants as source
use Rattle.order_grammar.specs.declared.order.Value.{Value}
use Rattle.order_grammar.specs.declared.order.Value.TheVariants as value
use Rattle.order_grammar.specs.declared.play.PlayOrder.TheVariants.{BuyPrivate, Bid, Limit, Par, BuyShare, Sell}
use Rattle.order_grammar.specs.declared.play.PlayOrder.TheVariants.{ExchangeMohawk, Lay, Token, RunBest, Pay}
use Rattle.order_grammar.specs.declared.play.PlayOrder.TheVariants.{Withhold, BuyTrain, Discard, BuyOwnedPrivate}
use Rattle.order_grammar.specs.declared.play.PlayOrder.TheVariants.{Raise, Offer}

-- an order that is made of parts
pub record IsFormed (k : Keyword) (values : List Value) (t : Trailing) : Type 0 where
  pub order : Order
  pub made : order_from k values t ≡ Some order
  pub parts : parts_of order ≡ made_of k values t

-- parts that have a form make an order
pub formed : (k : Keyword) (values : List Value) (t : Trailing) → list_any (is_row_of k values t) forms ≡ true
    → IsFormed k values t
formed keyword.Game ((value.Number game) ∷ (value.Number version) ∷ []) trailing.Nothing h =
    record { order = Game game version; made = refl; parts = refl }
formed keyword.Players [] (trailing.Names names) h = record { order = Players names; made = refl; parts = refl }
formed keyword.Sheet ((value.Name name) ∷ (value.Round round) ∷ []) trailing.Nothing h =
    record { order = Sheet name round; made = refl; parts = refl }
formed keyword.Turn [] trailing.Nothing h = record { order = Turn; made = refl; parts = refl }
formed keyword.Buy ((value.Private private) ∷ []) trailing.Nothing h =
    record { order = Play (BuyPrivate private); made = refl; parts = refl }
formed keyword.Bid ((value.Private private) ∷ (value.Number amount) ∷ []) trailing.Nothing h =
    record { order = Play (Bid private amount); made = refl; parts = refl }
formed keyword.Limit ((value.Private private) ∷ (value.Number amount) ∷ []) trailing.Nothing h =
    record { order = Play (Limit private amount); made = refl; parts = refl }
formed keyword.Par ((value.Company company) ∷ (value.Number price) ∷ []) trailing.Nothing h =
    record { order = Play (Par company price); made = refl; parts = refl }
formed keyword.Buy ((value.Company company) ∷ (value.Word keyword.InitialOffering) ∷ []) trailing.Nothing h =
    record { order = Play (BuyShare company InitialOffering); made = refl; parts = refl }
formed keyword.Buy ((value.Company company) ∷ (value.Word keyword.Pool) ∷ []) trailing.Nothing h =
    record { order = Play (BuyShare company BankPool); made = refl; parts = refl }
formed keyword.Sell ((value.Company company) ∷ (value.Number shares) ∷ []) trailing.Nothing h =
    record { order = Play (Sell company shares); made = refl; parts = refl }
formed keyword.Exchange ((value.Word keyword.Mohawk) ∷ []) trailing.Nothing h =
    record { order = Play ExchangeMohawk; made = refl; parts = refl }
formed keyword.Company ((value.Company company) ∷ []) trailing.Nothing h =
    record { order = CompanyTurn company; made = refl; parts = refl }
formed keyword.Lay ((value.Tile tile) ∷ (value.Hex hex) ∷ (value.Rotation rot) ∷ []) trailing.Nothing h =
    record { order = Play (Lay (lay_of tile hex rot false)); made = refl; parts = refl }
formed keyword.Lay ((value.Tile tile) ∷ (value.Hex hex) ∷ (value.Rotation rot) ∷ (value.Word keyword.Swap) ∷ [])
    trailing.Nothing h =
    record { order = Play (Lay (lay_of tile hex rot true)); made = refl; parts = refl }
formed keyword.Token ((value.Place place) ∷ []) trailing.Nothing h =
    record { order = Play (Token place); made = refl; parts = refl }
formed keyword.Run ((value.Kind kind) ∷ []) (trailing.Places run) h =
    record { order = Run kind run; made = refl; parts = refl }
formed keyword.Run ((value.Word keyword.Best) ∷ []) trailing.Nothing h =
    record { order = Play RunBest; made = refl; parts = refl }
formed keyword.Pay [] trailing.Nothing h = record { order = Play Pay; made = refl; parts = refl }
formed keyword.Withhold [] trailing.Nothing h = record { order = Play Withhold; made = refl; parts = refl }
formed keyword.Train ((value.Kind kind) ∷ (value.Word keyword.Bank) ∷ []) trailing.Nothing h =
    record { order = Play (BuyTrain kind source.Bank); made = refl; parts = refl }
formed keyword.Train ((value.Kind kind) ∷ (value.Word keyword.Bank) ∷ (value.Word keyword.Trade) ∷ (value.Kind other)
    ∷ []) trailing.Nothing h =
    record { order = Play (BuyTrain kind (source.Trade other)); made = refl; parts = refl }
formed keyword.Train ((value.Kind kind) ∷ (value.Word keyword.Pool) ∷ []) trailing.Nothing h =
    record { order = Play (BuyTrain kind source.BankPool); made = refl; parts = refl }
formed keyword.Train ((value.Kind kind) ∷ (value.Company seller) ∷ (value.Number price) ∷ []) trailing.Nothing h =
    record { order = Play (BuyTrain kind (source.Company seller price)); made = refl; parts = refl }
formed keyword.Discard ((value.Company company) ∷ (value.Kind kind) ∷ []) trailing.Nothing h =
    record { order = Play (Discard company kind); made = refl; parts = refl }
formed keyword.Private ((value.Private private) ∷ (value.Number price) ∷ []) trailing.Nothing h =
    record { order = Play (BuyOwnedPrivate private price); made = refl; parts = refl }
formed keyword.Raise ((value.Company company) ∷ (value.Number shares) ∷ []) trailing.Nothing h =
    record { order = Play (Raise company shares); made = refl; parts = refl }
formed keyword.Offer ((value.Word keyword.Private) ∷ (value.Private private) ∷ (value.Company buyer)
    ∷ (value.Number price) ∷ []) trailing.Nothing h =
    record { order = Play (Offer (offer.Private private buyer price)); made = refl; parts = refl }
formed keyword.Offer ((value.Word keyword.Train) ∷ (value.Kind kind) ∷ (value.Company seller) ∷ (value.Company buyer)
    ∷ (value.Number price) ∷ []) trailing.Nothing h =
    record { order = Play (Offer (offer.Train kind seller buyer price)); made = refl; parts = refl }
formed keyword.Certs ((value.Word keyword.One) ∷ []) trailing.Nothing h =
    record { order = Certs; made = refl; parts = refl }
formed keyword.Cert ((value.Round round) ∷ (value.Company company) ∷ (value.Number revenue) ∷ []) trailing.Nothing h =
    record { order = Cert round company revenue; made = refl; parts = refl }
formed keyword.Claim ((value.Kind kind) ∷ []) (trailing.Places run) h =
    record { order = Claim kind run; made = refl; parts = refl }
formed keyword.Marks (value.HexDigits ∷ []) trailing.Nothing h = record { order = Marks; made = refl; parts = refl }
formed k values t h = absurd (false≢true h)

-- an order is made again of its parts
abbrev pub IsMadeAgain : Order → Option Parts → Type 0
IsMadeAgain order None = order ≡ Blank
IsMadeAgain order (Some parts) = order_from parts.keyword parts.values parts.trailing ≡ Some order

lay_made_again : (tile : TileNo) (hex : Hex) (rot : Rotation) (swap : Bool) →
    IsMadeAgain (Play (Lay (lay_of tile hex rot swap))) (parts_of (Play (Lay (lay_of tile hex rot swap))))
lay_made_again tile hex rot true = refl
lay_made_again tile hex rot false = refl

pub made_again : (order : Order) → IsMadeAgain order (parts_of order)
made_again Blank = refl
made_again (Play (BuyShare company InitialOffering)) = refl
made_again (Play (BuyShare company BankPool)) = refl
made_again (Play (BuyTrain kind source.Bank)) = refl
made_again (Play (BuyTrain kind (source.Trade other))) = refl
made_again (Play (BuyTrain kind source.BankPool)) = refl
made_again (Play (BuyTrain kind (source.Company seller price))) = refl
made_again (Play (Offer (offer.Private private buyer price))) = refl
made_again (Play (Offer (offer.Train kind seller buyer price))) = refl
made_again (Play (Lay lay)) = lay_made_again lay.tile lay.hex lay.rot lay.swap
made_again other = refl

-- the word of a value
abbrev pub IsTextOf : Value → List ℕ → Type 0
IsTextOf (value.Number number) text = IsNumber number text
IsTextOf (value.Name name) text = IsName name text
IsTextOf (value.Round round) text = IsRoundOfLine round text
IsTextOf (value.Private private) text = IsPrivate private text
IsTextOf (value.Company company) text = IsCompany company text
IsTextOf (value.Kind kind) text = IsKind kind text
IsTextOf (value.Tile tile) text = IsTile tile text
IsTextOf (value.Hex hex) text = IsHex hex text
IsTextOf (value.Rotation rotation) text = IsRotation rotation text
IsTextOf (value.Place place) text = IsPlace place text
IsTextOf value.HexDigits text = AreHexDigits text
IsTextOf (value.Word k) text = IsWord (text_of_keyword k) text

-- the words of what is repeated
abbrev pub AreWordsOfTrailing : Trailing → List (List ℕ) → Type 0
AreWordsOfTrailing trailing.Nothing words = End words
AreWordsOfTrailing (trailing.Names names) words = words ≡ names.items
AreWordsOfTrailing (trailing.Places run) words = words ≡ map text_of_place run

-- the words of values, and then of what is repeated
abbrev pub AreTextsOf : List Value → Trailing → List (List ℕ) → Type 0
AreTextsOf [] t words = AreWordsOfTrailing t words
AreTextsOf (v ∷ values) t words = Then (IsTextOf v) (AreTextsOf values t) words

-- the words of parts
abbrev pub AreWordsByParts : Option Parts → List (List ℕ) → Type 0
AreWordsByParts None words = End words
AreWordsByParts (Some parts) words =
    Then (IsWord (text_of_keyword parts.keyword)) (AreTextsOf parts.values parts.trailing) words ×
    (has_form parts ≡ true)

-- the words of a players line
players_by_parts : (words names : List (List ℕ))
    → Then (IsWord (text_of_keyword keyword.Players)) (AreNames names) words →
    AreWordsByParts (made_of keyword.Players [] (trailing.Names (record { items = names }))) words
players_by_parts [] names h = absurd h
players_by_parts (first ∷ words) names h =
    let least = le-leb 3 _ h.1.least in
    let most = le-leb _ 6 h.1.most in
    let each = h.1.each in
    ((h.0, h.1.same), rw (least, most, each) refl)

-- the words of a run
run_by_parts : (words : List (List ℕ)) (kind : Kind) (run : List Place) → AreWordsFor (Run kind run) words
    → AreWordsByParts (parts_of (Run kind run)) words
run_by_parts [] kind run h = absurd h
run_by_parts (first ∷ []) kind run h = absurd h.1
run_by_parts (first ∷ second ∷ words) kind run h =
    let least = le-leb 2 _ h.1.1.least in
    let most = le-leb _ 280 h.1.1.most in
    ((h.0, (h.1.0, h.1.1.named)), rw (least, most) refl)

-- of the forms that begin as it does, only that of a run has places
run_counted : (kind : Kind) (run : List Place) →
    has_form (record { keyword = keyword.Run; values = value.Kind kind ∷ []; trailing = trailing.Places run }) ≡ true →
    is_run_length (length run) ≡ true
run_counted kind run h =
    elim (cases_Bool (is_run_length (length run))) [
      | inl some ↦ some
      | inr none ↦ let wrong = rw none at h in absurd (false≢true wrong)
    ]

-- the words of a claim
claim_by_parts : (words : List (List ℕ)) (kind : Kind) (run : List Place) → AreWordsFor (Claim kind run) words →
    AreWordsByParts (parts_of (Claim kind run)) words
claim_by_parts [] kind run h = absurd h
claim_by_parts (first ∷ []) kind run h = absurd h.1
claim_by_parts (first ∷ second ∷ words) kind run h =
    let least = le-leb 2 _ h.1.1.least in
    let most = le-leb _ 280 h.1.1.most in
    ((h.0, (h.1.0, h.1.1.named)), rw (least, most) refl)

-- of the forms that begin as it does, only that of a claim has places
claim_counted : (kind : Kind) (run : List Place) →
    has_form (record { keyword = keyword.Claim; values = value.Kind kind ∷ []; trailing = trailing.Places run }) ≡ true
    →
    is_run_length (length run) ≡ true
claim_counted kind run h =
    elim (cases_Bool (is_run_length (length run))) [
      | inl some ↦ some
      | inr none ↦ let wrong = rw none at h in absurd (false≢true wrong)
    ]

claim_of_parts : (words : List (List ℕ)) (kind : Kind) (run : List Place)
    → AreWordsByParts (parts_of (Claim kind run)) words →
    AreWordsFor (Claim kind run) words
claim_of_parts [] kind run h = absurd h.0
claim_of_parts (first ∷ []) kind run h = absurd h.0.1
claim_of_parts (first ∷ second ∷ words) kind run h =
    let counted = and_parts _ _ (claim_counted kind run h.1) in
    (h.0.0, (h.0.1.0, record { named = h.0.1.1; least = leb-true 2 _ counted.0; most = leb-true _ 280 counted.1 }))

run_of_parts : (words : List (List ℕ)) (kind : Kind) (run : List Place)
    → AreWordsByParts (parts_of (Run kind run)) words → AreWordsFor (Run kind run) words
run_of_parts [] kind run h = absurd h.0
run_of_parts (first ∷ []) kind run h = absurd h.0.1
run_of_parts (first ∷ second ∷ words) kind run h =
    let counted = and_parts _ _ (run_counted kind run h.1) in
    (h.0.0, (h.0.1.0, record { named = h.0.1.1; least = leb-true 2 _ counted.0; most = leb-true _ 280 counted.1 }))

-- the words of a lay
lay_by_parts : (tile : TileNo) (hex : Hex) (rot : Rotation) (swap : Bool) (words : List (List ℕ))
    → AreWordsFor (Play (Lay (lay_of tile hex rot swap))) words →
    AreWordsByParts (parts_of (Play (Lay (lay_of tile hex rot swap)))) words
lay_by_parts tile hex rot true words h = (h, refl)
lay_by_parts tile hex rot false words h = (h, refl)

lay_of_parts : (tile : TileNo) (hex : Hex) (rot : Rotation) (swap : Bool) (words : List (List ℕ)) →
    AreWordsByParts (parts_of (Play (Lay (lay_of tile hex rot swap)))) words
    → AreWordsFor (Play (Lay (lay_of tile hex rot swap))) words
lay_of_parts tile hex rot true words h = h.0
lay_of_parts tile hex rot false words h = h.0

-- words that spell an order are those of its parts
pub by_parts : (order : Order) (words : List (List ℕ)) → AreWordsFor order words
    → AreWordsByParts (parts_of order) words
by_parts Blank words h = h
by_parts (Players names) words h = players_by_parts words names.items h
by_parts (Play (BuyShare company InitialOffering)) words h = (h, refl)
by_parts (Play (BuyShare company BankPool)) words h = (h, refl)
by_parts (Run kind run) words h = run_by_parts words kind run h
by_parts (Claim kind run) words h = claim_by_parts words kind run h
by_parts (Play (BuyTrain kind source.Bank)) words h = (h, refl)
by_parts (Play (BuyTrain kind (source.Trade other))) words h = (h, refl)
by_parts (Play (BuyTrain kind source.BankPool)) words h = (h, refl)
by_parts (Play (BuyTrain kind (source.Company seller price))) words h = (h, refl)
by_parts (Play (Offer (offer.Private private buyer price))) words h = (h, refl)
by_parts (Play (Offer (offer.Train kind seller buyer price))) words h = (h, refl)
by_parts (Play (Lay lay)) words h = lay_by_parts lay.tile lay.hex lay.rot lay.swap words h
by_parts other words h = (h, refl)

-- of the forms only that of a players line has names
players_names : (names : List (List ℕ)) →
    has_form (record { keyword = keyword.Players; values = []; trailing = trailing.Names (record { items = names }) })
    ≡ true →
    are_names 3 6 names ≡ true
players_names names h =
    elim (cases_Bool (are_names 3 6 names)) [
      | inl some ↦ some
      | inr none ↦ let wrong = rw none at h in absurd (false≢true wrong)
    ]

players_of_parts : (words names : List (List ℕ))
    → AreWordsByParts (made_of keyword.Players [] (trailing.Names (record { items = names }))) words →
    Then (IsWord (text_of_keyword keyword.Players)) (AreNames names) words
players_of_parts [] names h = absurd h.0
players_of_parts (first ∷ words) names h =
    let counted = and_parts _ _ (players_names names h.1) in
    let least_and_most = and_parts _ _ counted.0 in (
      h.0.0,
      record {
        same = h.0.1;
        least = leb-true 3 _ least_and_most.0;
        most = leb-true _ 6 least_and_most.1;
        each =
            counted.1;
      },
    )

-- the words of an order's parts spell it
pub of_parts : (order : Order) (words : List (List ℕ)) → AreWordsByParts (parts_of order) words
    → AreWordsFor order words
of_parts Blank words h = h
of_parts (Players names) words h = players_of_parts words names.items h
of_parts (Play (BuyShare company InitialOffering)) words h = h.0
of_parts (Play (BuyShare company BankPool)) words h = h.0
of_parts (Run kind run) words h = run_of_parts words kind run h
of_parts (Claim kind run) words h = claim_of_parts words kind run h
of_parts (Play (BuyTrain kind source.Bank)) words h = h.0
of_parts (Play (BuyTrain kind (source.Trade other))) words h = h.0
of_parts (Play (BuyTrain kind source.BankPool)) words h = h.0
of_parts (Play (BuyTrain kind (source.Company seller price))) words h = h.0
of_parts (Play (Offer (offer.Private private buyer price))) words h = h.0
of_parts (Play (Offer (offer.Train kind seller buyer price))) words h = h.0
of_parts (Play (Lay lay)) words h = lay_of_parts lay.tile lay.hex lay.rot lay.swap words h
of_parts other words h = h.0
