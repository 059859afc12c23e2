-- A private that is closed stays so: an event that names an owner names that of a private which is
-- not closed.
use Rattle.std.proofs.Common.{◌≡◌, Bool, true, false, ◌&&◌, if◌then◌else◌, List, [], ◌∷◌, ◌++◌, Option, Some, None}
use Rattle.std.proofs.Common.{is_some, is_none, refl, sym, ap, ◌∙◌}
use Rattle.std.specs.Option.{option_flatten, option_or}
use Rattle.events.specs.Event.{ownership_of}
use Rattle.events.specs.declared.event.Event.{Event}
use Rattle.events.specs.declared.event.Event.TheVariants as event
use Rattle.events.specs.declared.event.Holder.{Holder}
use Rattle.events.specs.declared.event.Holder.TheVariants as holder
use Rattle.events.specs.declared.event.Ownership.{Ownership}
use Rattle.totals.proofs.Privates.{same_private_is}
use Rattle.totals.proofs.EventAtEnd.{last_said_at_end}
use Rattle.totals.specs.LookBack.{is_closed, last_said, owner_said}
use Rattle.purchases.specs.PrivateLaws.{ClosedHasNoOwner, KeepsClosed, OthersKeepClosed, SalesKeepClosed, names_owner}
use Rattle.tables.specs.Roster.{same_private}
use Rattle.tables.specs.declared.roster.Private.{Private}

-- the last word on a private says that it is closed: it has been sold, and has no owner
abbrev pub says_closed : Option (Option Holder) → Bool
says_closed word = is_some word && is_none (option_flatten word)

-- it has none then
says_none : (word : Option (Option Holder)) → says_closed word ≡ true → option_flatten word ≡ None
says_none None closed = refl
says_none (Some None) closed = refl
says_none (Some (Some owner)) closed = absurd (cc)

pub closed_has_no_owner : ClosedHasNoOwner
closed_has_no_owner events private closed =
    says_none (last_said (λ its. owner_said private (ownership_of its)) events) closed

-- it stays so where no owner is named
closed_again : (said word : Option (Option Holder)) → is_some (option_flatten said) ≡ false → says_closed word ≡ true →
    says_closed (option_or said word) ≡ true
closed_again None word nobody closed = closed
closed_again (Some None) word nobody closed = refl
closed_again (Some (Some owner)) word nobody closed = absurd (cc)

-- what names no owner names none of this private
none_here : (here : Bool) (owner : Option Holder) → is_some owner ≡ false →
    is_some (option_flatten (if here then Some owner else None)) ≡ false
none_here true owner none = none
none_here false owner none = refl

none_named : (private : Private) (word : Option Ownership) → names_owner word ≡ false →
    is_some (option_flatten (owner_said private word)) ≡ false
none_named private None none = refl
none_named private (Some ownership) none = none_here (same_private ownership.private private) ownership.owner none

-- so closed privates stay closed after an event that names no owner
pub others_keep_closed : OthersKeepClosed
others_keep_closed events its none private closed =
    ap says_closed (last_said_at_end (λ e. owner_said private (ownership_of e)) events its)
    ∙ closed_again (owner_said private (ownership_of its)) (last_said (λ e. owner_said private (ownership_of e)) events)
    (none_named private (ownership_of its) none) closed

-- a private that is unsold is not closed, nor is one that somebody owns
unsold_not : (word : Option (Option Holder)) → is_some word ≡ false → says_closed word ≡ false
unsold_not None unsold = refl
unsold_not (Some word) unsold = absurd (cc)

pub owned_not : (word : Option (Option Holder)) (owner : Holder) → option_flatten word ≡ Some owner →
    says_closed word ≡ false
owned_not None owner owns = refl
owned_not (Some None) owner owns = let nobody : ◌≡◌ {A = Option Holder} None (Some owner) = owns in absurd (cc)
owned_not (Some (Some other)) owner owns = refl

-- a closed private stays so where one that is not closed gets an owner
closed_still : (here : Bool) (new : Holder) (word : Option (Option Holder)) → (here ≡ true → says_closed word ≡ false) →
    says_closed word ≡ true → says_closed (option_or (if here then Some (Some new) else None) word) ≡ true
closed_still false new word not_closed closed = closed
closed_still true new word not_closed closed = let now = not_closed refl in absurd (cc)

pub owner_keeps_closed : (events : List Event) (its : Event) (given : Private) (owner : Holder) →
    ownership_of its ≡ Some (record { private = given; owner = Some owner }) → is_closed events given ≡ false →
    KeepsClosed events (events ++ its ∷ [])
owner_keeps_closed events its given owner says not_closed private closed =
    let word = last_said (λ e. owner_said private (ownership_of e)) events in
    ap says_closed (last_said_at_end (λ e. owner_said private (ownership_of e)) events its)
    ∙ ap (λ (said : Option Ownership). says_closed (option_or (owner_said private said) word)) says
    ∙ closed_still (same_private given private) owner word
    (λ same. ap (is_closed events) (sym (same_private_is given private same)) ∙ not_closed) closed

-- as by the sale of one that was unsold
pub sales_keep_closed : SalesKeepClosed
sales_keep_closed events sold buyer price unsold =
    owner_keeps_closed events (event.Sold sold buyer price) sold (holder.Seat buyer) refl
    (unsold_not (last_said (λ e. owner_said sold (ownership_of e)) events) unsold)
