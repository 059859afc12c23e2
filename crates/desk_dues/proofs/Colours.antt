-- What colours of tiles open with a kind, by the table of next kinds and by the rules of a lay.
use Rattle.std.proofs.Common.{◌≡◌, Some, Option, unwrap_or, true, false, refl, ap, subst}
use Rattle.board.specs.LayRules.{is_colour_closed}
use Rattle.desk_dues.specs.Laws.{TilesOpenAsRuled}
use Rattle.desk_dues.specs.NextKind.{colour_opened_by, kind_after}
use Rattle.map_tables.specs.declared.tiles.Colour.{Colour}
use Rattle.map_tables.specs.declared.tiles.Colour.TheVariants.{White, Yellow, Green, Brown}
use Rattle.tables.specs.declared.rolling_stock.Kind.{Kind}
use Rattle.tables.specs.declared.rolling_stock.Kind.TheVariants.{Two, Three, Four, Five, Six, Diesel}

-- the same of a kind and the next
abbrev OpensAt : Kind → Kind → Type 0
OpensAt phase new = (colour : Colour) → colour_opened_by new ≡ Some colour → TilesOpenAsRuled phase new colour

opens_three : OpensAt Two Three
unfolding is_colour_closed
opens_three White is = cc
opens_three Yellow is = cc
opens_three Green is = record { before = refl; after = refl }
opens_three Brown is = cc

opens_four : OpensAt Three Four
unfolding is_colour_closed
opens_four White is = cc
opens_four Yellow is = cc
opens_four Green is = cc
opens_four Brown is = cc

opens_five : OpensAt Four Five
unfolding is_colour_closed
opens_five White is = cc
opens_five Yellow is = cc
opens_five Green is = cc
opens_five Brown is = record { before = refl; after = refl }

opens_six : OpensAt Five Six
unfolding is_colour_closed
opens_six White is = cc
opens_six Yellow is = cc
opens_six Green is = cc
opens_six Brown is = cc

opens_diesel : OpensAt Six Diesel
unfolding is_colour_closed
opens_diesel White is = cc
opens_diesel Yellow is = cc
opens_diesel Green is = cc
opens_diesel Brown is = cc

-- the next kind is the one that this option has
next_is : (kind new : Kind) → Some kind ≡ Some new → kind ≡ new
next_is kind new is = ap (λ (one : Option Kind). unwrap_or one kind) is

pub colours_open : (phase new : Kind) (colour : Colour) → kind_after phase ≡ Some new
    → colour_opened_by new ≡ Some colour → TilesOpenAsRuled phase new colour
colours_open Two new colour is = subst (λ (kind : Kind). colour_opened_by kind ≡ Some colour → TilesOpenAsRuled Two kind colour) (next_is Three new is) (opens_three colour)
colours_open Three new colour is = subst (λ (kind : Kind). colour_opened_by kind ≡ Some colour → TilesOpenAsRuled Three kind colour) (next_is Four new is) (opens_four colour)
colours_open Four new colour is = subst (λ (kind : Kind). colour_opened_by kind ≡ Some colour → TilesOpenAsRuled Four kind colour) (next_is Five new is) (opens_five colour)
colours_open Five new colour is = subst (λ (kind : Kind). colour_opened_by kind ≡ Some colour → TilesOpenAsRuled Five kind colour) (next_is Six new is) (opens_six colour)
colours_open Six new colour is = subst (λ (kind : Kind). colour_opened_by kind ≡ Some colour → TilesOpenAsRuled Six kind colour) (next_is Diesel new is) (opens_diesel colour)
colours_open Diesel new colour is = absurd (let no : ⊥ = cc in no)

-- and the other way round
abbrev OpensOnly : Kind → Kind → Type 0
OpensOnly phase new = (colour : Colour) → TilesOpenAsRuled phase new colour → colour_opened_by new ≡ Some colour

only_three : OpensOnly Two Three
unfolding is_colour_closed
only_three White rule = absurd (let no : false ≡ true = rule.before in cc)
only_three Yellow rule = absurd (let no : false ≡ true = rule.before in cc)
only_three Green rule = refl
only_three Brown rule = absurd (let no : true ≡ false = rule.after in cc)

only_four : OpensOnly Three Four
unfolding is_colour_closed
only_four White rule = absurd (let no : false ≡ true = rule.before in cc)
only_four Yellow rule = absurd (let no : false ≡ true = rule.before in cc)
only_four Green rule = absurd (let no : false ≡ true = rule.before in cc)
only_four Brown rule = absurd (let no : true ≡ false = rule.after in cc)

only_five : OpensOnly Four Five
unfolding is_colour_closed
only_five White rule = absurd (let no : false ≡ true = rule.before in cc)
only_five Yellow rule = absurd (let no : false ≡ true = rule.before in cc)
only_five Green rule = absurd (let no : false ≡ true = rule.before in cc)
only_five Brown rule = refl

only_six : OpensOnly Five Six
unfolding is_colour_closed
only_six White rule = absurd (let no : false ≡ true = rule.before in cc)
only_six Yellow rule = absurd (let no : false ≡ true = rule.before in cc)
only_six Green rule = absurd (let no : false ≡ true = rule.before in cc)
only_six Brown rule = absurd (let no : false ≡ true = rule.before in cc)

only_diesel : OpensOnly Six Diesel
unfolding is_colour_closed
only_diesel White rule = absurd (let no : false ≡ true = rule.before in cc)
only_diesel Yellow rule = absurd (let no : false ≡ true = rule.before in cc)
only_diesel Green rule = absurd (let no : false ≡ true = rule.before in cc)
only_diesel Brown rule = absurd (let no : false ≡ true = rule.before in cc)

pub no_other_opens : (phase new : Kind) (colour : Colour) → kind_after phase ≡ Some new
    → TilesOpenAsRuled phase new colour → colour_opened_by new ≡ Some colour
no_other_opens Two new colour is = subst (λ (kind : Kind). TilesOpenAsRuled Two kind colour → colour_opened_by kind ≡ Some colour) (next_is Three new is) (only_three colour)
no_other_opens Three new colour is = subst (λ (kind : Kind). TilesOpenAsRuled Three kind colour → colour_opened_by kind ≡ Some colour) (next_is Four new is) (only_four colour)
no_other_opens Four new colour is = subst (λ (kind : Kind). TilesOpenAsRuled Four kind colour → colour_opened_by kind ≡ Some colour) (next_is Five new is) (only_five colour)
no_other_opens Five new colour is = subst (λ (kind : Kind). TilesOpenAsRuled Five kind colour → colour_opened_by kind ≡ Some colour) (next_is Six new is) (only_six colour)
no_other_opens Six new colour is = subst (λ (kind : Kind). TilesOpenAsRuled Six kind colour → colour_opened_by kind ≡ Some colour) (next_is Diesel new is) (only_diesel colour)
no_other_opens Diesel new colour is = absurd (let no : ⊥ = cc in no)
