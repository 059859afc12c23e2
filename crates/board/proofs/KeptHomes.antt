-- Home tokens that are still to come take the slots that are kept.
use Rattle.std.proofs.Common.{◌≡◌, ◌∙◌, ap, sym, subst, refl, ◌+◌, ◌<◌, ◌≤◌, ◌⊎◌, inl, inr, ◌&&◌, ◌||◌, Bool, true}
use Rattle.std.proofs.Common.{false, not, cond, List, [], ◌∷◌, ◌++◌, map, Option, Some, None, arith}
use Rattle.std.proofs.lemmas.Bool.{and_from, and_parts, leb-false}
use Rattle.std.proofs.lemmas.List.Folds.{list_any-append}
use Rattle.std.proofs.lemmas.List.Sums.{sum_by-append, sum_by-cons, sum_by-le-sum_by}
use Rattle.std.specs.List.{count_by, filter, list_any}
use Rattle.std.proofs.Math.Bool.{or-true}
use Rattle.board_state.specs.MapState.{MapState}
use Rattle.map_tables.specs.OnMap.{has_token, is_part_of, is_stop, names, same_stop, slots_at, slots_on, taken_at}
use Rattle.map_tables.specs.Fit.{home_token, homes_to_come}
use Rattle.board.specs.TokenRules.{is_full_at, is_kept_for, kept_at}
use Rattle.board_state.proofs.Same.{stop_is_same}
use Rattle.map_tables.specs.Home.{home_of}
use Rattle.map_tables.specs.Place.{joined_stop_of, stop_of_place}
use Rattle.map_tables.specs.declared.place.Place.{Place}
use Rattle.map_tables.specs.declared.place.Stop.{Stop}
use Rattle.reach.specs.Position.{IsAmong}
use Rattle.tables.proofs.Companies.{company_is_same}
use Rattle.tables.specs.Roster.{companies, same_company}
use Rattle.tables.specs.declared.roster.Company.{Company}
use Rattle.tables.specs.declared.roster.Company.TheVariants.{Pennsylvania, NewYorkCentral, CanadianPacific}
use Rattle.tables.specs.declared.roster.Company.TheVariants.{BaltimoreOhio, ChesapeakeOhio, Erie, NewHaven, BostonMaine}
use Rattle.reach.proofs.Listed.{stop_is}

-- an element of two lists joined
pub among_append : {A : Type 0} (xs ys : List A) (x : A) → IsAmong x (xs ++ ys) → IsAmong x xs ⊎ IsAmong x ys
among_append [] ys x among = inr among
among_append (z ∷ zs) ys x (inl is) = inl (inl is)
among_append (z ∷ zs) ys x (inr more) = elim (among_append zs ys x more)
    [ inl first ↦ inl (inr first) | inr second ↦ inr second ]

pub among_first : {A : Type 0} (xs ys : List A) (x : A) → IsAmong x xs → IsAmong x (xs ++ ys)
among_first [] ys x among = absurd among
among_first (z ∷ zs) ys x (inl is) = inl is
among_first (z ∷ zs) ys x (inr more) = inr (among_first zs ys x more)

-- an element of a list of images
among_map : {A B : Type 0} (f : A → B) (xs : List A) (y : B) → IsAmong y (map f xs) → (x : A) × (f x ≡ y)
among_map f [] y among = absurd among
among_map f (x ∷ xs) y (inl is) = (x, is)
among_map f (x ∷ xs) y (inr more) = among_map f xs y more

-- one for a test that passes, where another does as well
one_le : (a b : Bool) → (a ≡ true → b ≡ true) → cond a 1 0 ≤ cond b 1 0
one_le true b implied = rw (implied refl) (omega arith)
one_le false b implied = omega arith

-- no more pass a test than one that it implies
pub count_le : {X : Type 0} (p q : X → Bool) (xs : List X) → ((x : X) → p x ≡ true → q x ≡ true)
    → count_by p xs ≤ count_by q xs
count_le p q xs implied =
    sum_by-le-sum_by (λ x. cond (p x) 1 0) (λ x. cond (q x) 1 0) xs (λ x. one_le (p x) (q x) (implied x))

-- and fewer, where one passes the second alone
count_less : {X : Type 0} (p q : X → Bool) (xs : List X) (x : X) → ((x : X) → p x ≡ true → q x ≡ true) → p x ≡ false
    → q x ≡ true → IsAmong x xs → count_by p xs + 1 ≤ count_by q xs
count_less p q [] x implied fails passes among = absurd among
count_less p q (y ∷ ys) x implied fails passes (inl is) =
    let here : cond (p y) 1 0 ≡ 0 = ap (λ b. cond b 1 0) (ap p is ∙ fails) in
    let there : cond (q y) 1 0 ≡ 1 = ap (λ b. cond b 1 0) (ap q is ∙ passes) in
    let first : count_by p (y ∷ ys) ≡ 0 + count_by p ys =
    sum_by-cons (λ x. cond (p x) 1 0) y ys ∙ ap (λ n. n + count_by p ys) here in
    let second : count_by q (y ∷ ys) ≡ 1 + count_by q ys =
    sum_by-cons (λ x. cond (q x) 1 0) y ys ∙ ap (λ n. n + count_by q ys) there in
    let later = count_le p q ys implied in
    rw (first, second) (omega arith)
count_less p q (y ∷ ys) x implied fails passes (inr more) =
    let first : count_by p (y ∷ ys) ≡ cond (p y) 1 0 + count_by p ys = sum_by-cons (λ x. cond (p x) 1 0) y ys in
    let second : count_by q (y ∷ ys) ≡ cond (q y) 1 0 + count_by q ys = sum_by-cons (λ x. cond (q x) 1 0) y ys in
    let later = count_less p q ys x implied fails passes more in
    let here = one_le (p y) (q y) (implied y) in
    rw (first, second) (omega arith)

-- those of some images that pass a test
count_images : {A B : Type 0} (p : B → Bool) (f : A → B) (g : A → Bool) (xs : List A)
    → count_by p (map f (filter g xs)) ≡ count_by (λ x. g x && p (f x)) xs
count_images p f g [] = refl
count_images p f g (x ∷ xs) =
    (elim (g x) as (λ b. count_by p (map f (cond b (x ∷ filter g xs) (filter g xs)))
    ≡ cond (b && p (f x)) 1 0 + count_by (λ y. g y && p (f y)) xs) [
      | true ↦ sum_by-cons (λ y. cond (p y) 1 0) (f x) (map f (filter g xs))
          ∙ ap (λ n. cond (p (f x)) 1 0 + n) (count_images p f g xs)
      | false ↦ count_images p f g xs ∙ omega arith
    ])
    ∙ sym (sum_by-cons (λ y. cond (g y && p (f y)) 1 0) x xs)

-- no home is part of another stop
home_joined : (company : Company) → joined_stop_of (home_of company) ≡ home_of company
home_joined Pennsylvania = refl
home_joined company = refl

-- a kept slot is that of a home token to come
kept_is_to_come : (tokens : List (Place × Company)) (stop : Stop) (company : Company)
    → is_kept_for tokens stop company ≡ true → (not (has_token tokens (home_of company) company)
    && names stop (home_token company).0) ≡ true
kept_is_to_come tokens stop company kept =
    let parts = and_parts (same_stop (home_of company) stop) (not (has_token tokens stop company)) kept in
    let here : home_of company ≡ stop = stop_is (home_of company) stop parts.0 in
    and_from (not (has_token tokens (home_of company) company)) (names stop (home_token company).0)
    (ap (λ (s : Stop). not (has_token tokens s company)) here ∙ parts.1)
    (ap (λ (s : Stop). same_stop s stop) (home_joined company) ∙ parts.0)

-- and the other way
to_come_is_kept : (tokens : List (Place × Company)) (stop : Stop) (company : Company)
    → (not (has_token tokens (home_of company) company) && names stop (home_token company).0) ≡ true
    → is_kept_for tokens stop company ≡ true
to_come_is_kept tokens stop company to_come =
    let parts = and_parts (not (has_token tokens (home_of company) company)) (names stop (home_token company).0)
    to_come in
    let same : same_stop (home_of company) stop ≡ true =
    ap (λ (s : Stop). same_stop s stop) (sym (home_joined company)) ∙ parts.1 in
    let here : home_of company ≡ stop = stop_is (home_of company) stop same in
    and_from (same_stop (home_of company) stop) (not (has_token tokens stop company)) same
    (ap (λ (s : Stop). not (has_token tokens s company)) (sym here) ∙ parts.0)

-- so with the home tokens to come at least the kept slots are taken
pub homes_take : (tokens : List (Place × Company)) (stop : Stop)
    → taken_at tokens stop + kept_at tokens (joined_stop_of stop) ≤ taken_at (tokens ++ homes_to_come tokens) stop
unfolding kept_at
homes_take tokens stop =
    let joined = joined_stop_of stop in
    let here = λ (token : Place × Company). names joined token.0 in
    let to_come = λ (company : Company). not (has_token tokens (home_of company) company) in
    let all : taken_at (tokens ++ homes_to_come tokens) stop
    ≡ taken_at tokens stop + count_by here (homes_to_come tokens) =
    sum_by-append (λ token. cond (here token) 1 0) tokens (homes_to_come tokens) in
    let homes : count_by here (homes_to_come tokens)
    ≡ count_by (λ company. to_come company && here (home_token company)) companies =
    count_images here home_token to_come companies in
    let kept : count_by (is_kept_for tokens joined) companies
    ≤ count_by (λ company. to_come company && here (home_token company)) companies =
    count_le (is_kept_for tokens joined) (λ company. to_come company && here (home_token company)) companies
    (kept_is_to_come tokens joined) in
    rw (all, homes) (omega arith)

-- and at most those
pub homes_take_no_more : (tokens : List (Place × Company)) (stop : Stop)
    → taken_at (tokens ++ homes_to_come tokens) stop ≤ taken_at tokens stop + kept_at tokens (joined_stop_of stop)
unfolding kept_at
homes_take_no_more tokens stop =
    let joined = joined_stop_of stop in
    let here = λ (token : Place × Company). names joined token.0 in
    let to_come = λ (company : Company). not (has_token tokens (home_of company) company) in
    let all : taken_at (tokens ++ homes_to_come tokens) stop
    ≡ taken_at tokens stop + count_by here (homes_to_come tokens) =
    sum_by-append (λ token. cond (here token) 1 0) tokens (homes_to_come tokens) in
    let homes : count_by here (homes_to_come tokens)
    ≡ count_by (λ company. to_come company && here (home_token company)) companies =
    count_images here home_token to_come companies in
    let kept : count_by (λ company. to_come company && here (home_token company)) companies
    ≤ count_by (is_kept_for tokens joined) companies =
    count_le (λ company. to_come company && here (home_token company)) (is_kept_for tokens joined) companies
    (to_come_is_kept tokens joined) in
    rw (all, homes) (omega arith)

-- a company that has a token has it with one more
still_has : (tokens : List (Place × Company)) (token : Place × Company) (stop : Stop) (company : Company)
    → not (has_token (tokens ++ token ∷ []) stop company) ≡ true → not (has_token tokens stop company) ≡ true
still_has tokens token stop company none =
    let has = λ (t : Place × Company). names stop t.0 && same_company t.1 company in
    let joined : not (list_any has tokens || list_any has (token ∷ [])) ≡ true =
    ap not (sym (list_any-append has tokens (token ∷ []))) ∙ none in
    (elim (list_any has tokens) as (λ b. not (b || list_any has (token ∷ [])) ≡ true → not b ≡ true)
    [ true ↦ λ e. e | false ↦ λ e. refl ]) joined

-- so no more slots are kept
kept_less_for : (tokens : List (Place × Company)) (token : Place × Company) (stop : Stop) (company : Company)
    → is_kept_for (tokens ++ token ∷ []) stop company ≡ true → is_kept_for tokens stop company ≡ true
kept_less_for tokens token stop company kept =
    let parts = and_parts (same_stop (home_of company) stop) (not (has_token (tokens ++ token ∷ []) stop company))
    kept in
    and_from (same_stop (home_of company) stop) (not (has_token tokens stop company)) parts.0
    (still_has tokens token stop company parts.1)

pub kept_less : (tokens : List (Place × Company)) (token : Place × Company) (stop : Stop)
    → kept_at (tokens ++ token ∷ []) stop ≤ kept_at tokens stop
unfolding kept_at
kept_less tokens token stop =
    count_le (is_kept_for (tokens ++ token ∷ []) stop) (is_kept_for tokens stop) companies
    (kept_less_for tokens token stop)

-- each company is one of the roster
in_roster : (company : Company) → IsAmong company companies
in_roster Pennsylvania = inl refl
in_roster NewYorkCentral = inr (inl refl)
in_roster CanadianPacific = inr (inr (inl refl))
in_roster BaltimoreOhio = inr (inr (inr (inl refl)))
in_roster ChesapeakeOhio = inr (inr (inr (inr (inl refl))))
in_roster Erie = inr (inr (inr (inr (inr (inl refl)))))
in_roster NewHaven = inr (inr (inr (inr (inr (inr (inl refl))))))
in_roster BostonMaine = inr (inr (inr (inr (inr (inr (inr (inl refl)))))))

-- a home token takes the slot that was kept for it
pub home_takes_kept : (tokens : List (Place × Company)) (company : Company)
    → has_token tokens (home_of company) company ≡ false
    → kept_at (tokens ++ home_token company ∷ []) (home_of company) + 1 ≤ kept_at tokens (home_of company)
unfolding kept_at
home_takes_kept tokens company none =
    let home = home_of company in
    let more = tokens ++ home_token company ∷ [] in
    let has = λ (t : Place × Company). names home t.0 && same_company t.1 company in
    let itself : same_stop home home ≡ true = stop_is_same home home refl in
    let named : names home (home_token company).0 ≡ true =
    ap (λ (s : Stop). same_stop s home) (home_joined company) ∙ itself in
    let last : list_any has (home_token company ∷ []) ≡ true =
    ap (λ b. b || false) (and_from (names home (home_token company).0) (same_company company company) named
    (company_is_same company company refl)) in
    let lies : has_token more home company ≡ true =
    list_any-append has tokens (home_token company ∷ []) ∙ ap (λ b. list_any has tokens || b) last
    ∙ or-true (list_any has tokens) in
    let not_kept : is_kept_for more home company ≡ false =
    ap (λ b. same_stop home home && not b) lies ∙ ap (λ b. b && false) itself in
    let kept_now : is_kept_for tokens home company ≡ true =
    and_from (same_stop home home) (not (has_token tokens home company)) itself (ap not none) in
    count_less (is_kept_for more home) (is_kept_for tokens home) companies company
    (kept_less_for tokens (home_token company) home) not_kept kept_now (in_roster company)

-- a home token names a stop
pub home_named : (tokens : List (Place × Company)) (token : Place × Company) → IsAmong token (homes_to_come tokens)
    → (stop : Stop) × (stop_of_place token.0 ≡ Some stop)
home_named tokens token among =
    let (company, is) = among_map home_token (filter (λ company. not (has_token tokens (home_of company) company))
    companies) token among in
    (home_of company, ap (λ (t : Place × Company). stop_of_place t.0) (sym is))

-- a place with a free slot names a stop
free_named : (laid : MapState) (named : Option Stop) → is_full_at laid named ≡ false
    → (stop : Stop) × (named ≡ Some stop)
free_named laid None free = cc
free_named laid (Some stop) free = (stop, refl)

pub place_named : (laid : MapState) (place : Place) → is_full_at laid (stop_of_place place) ≡ false
    → (stop : Stop) × (stop_of_place place ≡ Some stop)
place_named laid place free = free_named laid (stop_of_place place) free

-- and that stop has room for one more beside those that are taken or kept
pub free_where : (laid : MapState) (named : Option Stop) (stop : Stop) → is_part_of (joined_stop_of stop) named ≡ true
    → is_full_at laid named ≡ false → taken_at laid.tokens stop + kept_at laid.tokens (joined_stop_of stop)
    < slots_at laid.lays stop
free_where laid None stop part free = cc
free_where laid (Some other) stop part free =
    let is = stop_is (joined_stop_of other) (joined_stop_of stop) part in
    subst (λ (joined : Stop). count_by (λ (token : Place × Company). names joined token.0) laid.tokens
    + kept_at laid.tokens joined < cond (is_stop joined) (slots_on laid.lays joined.hex) 0) is
    (leb-false (slots_at laid.lays other) (taken_at laid.tokens other + kept_at laid.tokens (joined_stop_of other))
    free)

-- a home token that names a stop has its home there
pub home_there : (company : Company) (stop : Stop) → names stop (home_token company).0 ≡ true → home_of company ≡ stop
home_there company stop here =
    stop_is (home_of company) stop (ap (λ (s : Stop). same_stop s stop) (sym (home_joined company)) ∙ here)
