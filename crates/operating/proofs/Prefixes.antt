-- A board that has the first of what was laid has them still when events are added, and has all
-- once it was brought the rest.
use Rattle.std.proofs.Common.{◌≡◌, ◌-◌, List, [], ◌∷◌, ◌++◌, length, Some, None, refl, ap, sym, subst, ◌∙◌}
use Rattle.std.proofs.lemmas.List.{append_assoc, append-nil}
use Rattle.std.proofs.lemmas.List.Elements.{filter_map-append}
use Rattle.board_state.specs.MapState.{MapState}
use Rattle.events.specs.Event.{tile_laid, token_placed}
use Rattle.totals.specs.LookBack.{Game}
use Rattle.totals.specs.Operating.{lays_of, tokens_of}
use Rattle.operating.proofs.TurnGames.{of_steps}
use Rattle.operating.proofs.TurnLaws.{adds_by}
use Rattle.operating.proofs.TurnSteps.{of_line, of_withheld_if_unpaid}
use Rattle.operating.specs.CompanyOrders.{ReadingLeads}
use Rattle.operating.specs.Laws.{OnlyAdds}
use Rattle.operating.specs.MapState.{BeginsWith, IsPrefix}
use Rattle.operating.specs.Pay.{withheld_if_unpaid}
use Rattle.operating.specs.TurnState.{TurnState, turn_state}
use Rattle.forced_purchase.specs.declared.operator.Operator.{Operator}
use Rattle.operating.specs.declared.progress.Progress.{Progress}
use Rattle.order_grammar.specs.declared.fault.Fault.{Fault}
use Rattle.order_grammar.specs.declared.order.Order.{Order}
use Rattle.std.specs.Prelude.{Result, slice_get}
use Rattle.sheets.specs.Part.{Numbered}
use Rattle.tables.specs.declared.roster.Company.{Company}

-- what is after a prefix
behind : {A : Type 0} (prefix rest : List A) → slice_get (prefix ++ rest) (length prefix) ≡ slice_get rest 0
behind [] rest = refl
behind (x ∷ xs) rest = behind xs rest

next_in : {A : Type 0} (prefix rest : List A) (x : A) → slice_get rest 0 ≡ Some x
    → BeginsWith (prefix ++ x ∷ []) (prefix ++ rest)
next_in prefix [] x is = cc
next_in prefix (y ∷ ys) x is =
    let same : y ≡ x = cc in
    record { rest = ys; is = ap (λ z. prefix ++ z ∷ ys) same ∙ sym (append_assoc prefix (x ∷ []) ys) }

-- a prefix with the next is one
pub next : {A : Type 0} (prefix all : List A) (x : A) → BeginsWith prefix all → slice_get all (length prefix) ≡ Some x
    → BeginsWith (prefix ++ x ∷ []) all
next prefix all x begins is =
    subst (λ xs. BeginsWith (prefix ++ x ∷ []) xs) (sym begins.is)
    (next_in prefix begins.rest x (sym (behind prefix begins.rest)
    ∙ ap (λ xs. slice_get xs (length prefix)) (sym begins.is) ∙ is))

none_in : {A : Type 0} (rest : List A) → slice_get rest 0 ≡ None → rest ≡ []
none_in [] is = refl
none_in (y ∷ ys) is = cc

-- a prefix with none after it is all
pub prefix_is_all : {A : Type 0} (prefix all : List A) → BeginsWith prefix all → slice_get all (length prefix) ≡ None
    → prefix ≡ all
prefix_is_all prefix all begins is =
    let none : begins.rest ≡ [] = none_in begins.rest
    (sym (behind prefix begins.rest) ∙ ap (λ xs. slice_get xs (length prefix)) (sym begins.is) ∙ is) in
    sym (begins.is ∙ ap (λ xs. prefix ++ xs) none ∙ append-nil prefix)

longer : {A : Type 0} (prefix all more : List A) → BeginsWith prefix all → BeginsWith prefix (all ++ more)
longer prefix all more begins =
    record { rest = begins.rest ++ more; is = ap (λ xs. xs ++ more) begins.is ∙ append_assoc prefix begins.rest more }

-- a prefix stays one when events are added
pub prefix_on : (laid : MapState) (old new : Game) → OnlyAdds old new → IsPrefix laid old.events
    → IsPrefix laid new.events
prefix_on laid old new adds prefix =
    subst (λ (game : Game). IsPrefix laid game.events) (sym adds.added)
    (record {
      lays = subst (λ ls. BeginsWith laid.lays ls) (sym (filter_map-append tile_laid old.events adds.more))
          (longer laid.lays (lays_of old.events) (lays_of adds.more) prefix.lays);
      tokens = subst (λ ts. BeginsWith laid.tokens ts) (sym (filter_map-append token_placed old.events adds.more))
          (longer laid.tokens (tokens_of old.events) (tokens_of adds.more) prefix.tokens);
    })

-- a line only adds events
pub line_adds : (by : Operator) (turn : TurnState) (line : Numbered) (reading : Result Order Fault) (new : TurnState)
    → ReadingLeads by turn line reading new → OnlyAdds turn.game new.game
line_adds by turn line reading new leads =
    of_line by _ (of_steps by.company OnlyAdds (adds_by by.company)) turn line reading new leads

-- and so does what a company withholds by itself
pub withholding_adds : (company : Company) (ruled paid : Game) (progress last : Progress)
    → turn_state paid last ≡ withheld_if_unpaid company (turn_state ruled progress) → OnlyAdds ruled paid
withholding_adds company ruled paid progress last is =
    subst (λ (turn : TurnState). OnlyAdds ruled turn.game) (sym is)
    (of_withheld_if_unpaid company _ (of_steps company OnlyAdds (adds_by company)) (turn_state ruled progress))
