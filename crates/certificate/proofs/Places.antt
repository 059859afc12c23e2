-- The trains in their order, by how many there are of each kind.
use Rattle.std.proofs.Common.{◌≡◌, ℕ, zero, suc, ◌+◌, ◌-◌, ◌*◌, ◌<◌, ◌≤◌, nat_lt, Bool, true, false, Some, None}
use Rattle.std.proofs.Common.{if◌then◌else◌, List, [], ◌∷◌, ◌++◌, length, get_or, drop, replicate, cond, count_by, refl}
use Rattle.std.proofs.Common.{ap, sym, ◌∙◌, arith}
use Rattle.std.proofs.lemmas.Bool.{ltb-false, ltb-true}
use Rattle.std.proofs.lemmas.List.{drop_more, get_or-replicate, get_or_append_left, length-append, length-replicate}
use Rattle.std.proofs.lemmas.List.Recursion.{is_sum_by}
use Rattle.map_tables.specs.declared.place.Stop.{Stop}
use Rattle.reach.specs.Position.{Position}
use Rattle.tables.specs.Train.{same_kind}
use Rattle.tables.specs.declared.rolling_stock.Kind.{Kind}
use Rattle.tables.specs.declared.rolling_stock.Kind.TheVariants.{Diesel, Five, Four, Six, Three, Two}
use Rattle.legal_runs.specs.Set.{in_number}
use Rattle.certificate.specs.Tree.{for_each, greatest_first, may_all_earn, may_earn}
use Rattle.certificate.specs.Walking.{HaveEarnings, earned_from, kind_from, trains_in}
use Rattle.certificate.specs.declared.tree.Group.{Group}
use Rattle.tables.proofs.TrainKinds.{kind_is as same_kind_is}

-- after this many things
drop_behind : {A : Type 0} (thing : A) (rest : List A) (count place : ℕ) → count ≤ place
    → drop place (replicate count thing ++ rest) ≡ drop (place - count) rest
drop_behind thing rest zero place low = let e : place ≡ place - 0 = omega arith in ap (λ (n : ℕ). drop n rest) e
drop_behind thing rest (suc count) zero low = absurd (omega arith)
drop_behind thing rest (suc count) (suc place) low =
    let e : place - count ≡ suc place - suc count = omega arith in
    drop_behind thing rest count place (omega arith) ∙ ap (λ (n : ℕ). drop n rest) e

among_first : (kind other : Kind) (rest : List Kind) (count place : ℕ) → place < count
    → drop place (replicate count kind ++ rest) ≡ kind ∷ drop (place + 1) (replicate count kind ++ rest)
among_first kind other rest count place low =
    let all : List Kind = replicate count kind ++ rest in
    let long : length all ≡ count + length rest = length-append (replicate count kind) rest
    ∙ ap (λ (n : ℕ). n + length rest) (length-replicate count kind) in
    let few : place < length (replicate count kind) = omega (arith, length-replicate count kind) in
    let here : get_or all place other ≡ kind = get_or_append_left (replicate count kind) rest other place few
    ∙ get_or-replicate count place kind other low in
    drop_more all place other (omega arith) ∙ ap (λ (k : Kind). k ∷ drop (place + 1) all) here

-- the train at a place is the first of those from there on
pub kind_is : (groups : List Group) (place : ℕ) (kind : Kind) → kind_from groups place ≡ Some kind
    → drop place (trains_in groups) ≡ kind ∷ drop (place + 1) (trains_in groups)
kind_is [] place kind is = absurd cc
kind_is (group ∷ groups) place kind is = by_test (kind_is groups (place - group.count) kind)
    (nat_lt place group.count) refl is
  where
    by_test :
        (kind_from groups (place - group.count) ≡ Some kind
        → drop (place - group.count) (trains_in groups)
        ≡ kind ∷ drop ((place - group.count) + 1) (trains_in groups)) →
        (b : Bool) → nat_lt place group.count ≡ b → (if b then Some group.kind else kind_from groups
        (place - group.count)) ≡ Some kind →
        drop place (trains_in (group ∷ groups)) ≡ kind ∷ drop (place + 1) (trains_in (group ∷ groups))
    by_test later true low found =
        let same : group.kind ≡ kind = cc in
        among_first group.kind kind (trains_in groups) group.count place (ltb-true place group.count low)
        ∙ ap (λ (k : Kind). k ∷ drop (place + 1) (trains_in (group ∷ groups))) same
    by_test later false high found =
        let behind : group.count ≤ place = ltb-false place group.count high in
        let e : (place - group.count) + 1 ≡ (place + 1) - group.count = omega arith in
        drop_behind group.kind (trains_in groups) group.count place behind
        ∙ (later found
        ∙ (ap (λ (n : ℕ). kind ∷ drop n (trains_in groups)) e
        ∙ ap (λ (l : List Kind). kind ∷ l) (sym (drop_behind group.kind (trains_in groups) group.count (place + 1)
        (omega arith)))))

-- after the last train there is none
pub none_is : (groups : List Group) (place : ℕ) → kind_from groups place ≡ None → length (trains_in groups) ≤ place
none_is [] place is = omega arith
none_is (group ∷ groups) place is = by_test (none_is groups (place - group.count)) (nat_lt place group.count) refl is
  where
    by_test :
        (kind_from groups (place - group.count) ≡ None → length (trains_in groups) ≤ place - group.count) →
        (b : Bool) → nat_lt place group.count ≡ b → (if b then Some group.kind else kind_from groups
        (place - group.count)) ≡ None →
        length (trains_in (group ∷ groups)) ≤ place
    by_test later true low found = absurd cc
    by_test later false high found =
        let behind : group.count ≤ place = ltb-false place group.count high in
        let rest = later found in
        omega (
          arith,
          length-append (replicate group.count group.kind) (trains_in groups),
          length-replicate
              group.count group.kind,
          rest,
        )

module _ (position : Position) (reached : List Stop) where
  abbrev earn : List Kind → ℕ
  earn trains = may_all_earn position reached trains

  alike : (kind : Kind) (rest : List Kind) (amount count : ℕ) → amount ≡ may_earn position reached kind []
      → earn (replicate count kind ++ rest) ≡ count * amount + earn rest
  alike kind rest amount zero is = omega arith
  alike kind rest amount (suc count) is =
      let more = alike kind rest amount count is in
      let e : suc count * amount ≡ amount + count * amount = grind arith in
      omega (arith, more, is, e)

  from_place :
      (kind : Kind) (rest : List Kind) (amount count place : ℕ) → amount ≡ may_earn position reached kind [] →
      earn (drop place (replicate count kind ++ rest)) ≡ (count - place) * amount + earn (drop (place - count) rest)
  from_place kind rest amount count zero is =
      let e : count - 0 ≡ count = omega arith in
      let f : 0 - count ≡ 0 = omega arith in
      alike kind rest amount count is
      ∙ (ap (λ (n : ℕ). n * amount + earn rest) (sym e)
      ∙ ap (λ (n : ℕ). (count - 0) * amount + earn (drop n rest)) (sym f))
  from_place kind rest amount zero (suc place) is =
      let e : 0 - suc place ≡ 0 = omega arith in
      let f : suc place - 0 ≡ suc place = omega arith in
      let none : 0 ≡ (0 - suc place) * amount = grind arith in
      let added : earn (drop (suc place) rest) ≡ 0 + earn (drop (suc place) rest) = omega arith in
      added ∙ (ap (λ (n : ℕ). n + earn (drop (suc place) rest)) none
      ∙ ap (λ (n : ℕ). (0 - suc place) * amount + earn (drop n rest)) (sym f))
  from_place kind rest amount (suc count) (suc place) is =
      let e : count - place ≡ suc count - suc place = omega arith in
      let f : place - count ≡ suc place - suc count = omega arith in
      from_place kind rest amount count place is
      ∙ (ap (λ (n : ℕ). n * amount + earn (drop (place - count) rest)) e
      ∙ ap (λ (n : ℕ). (suc count - suc place) * amount + earn (drop n rest)) f)

  -- what the trains from a place on may earn
  pub earned_is : (groups : List Group) → HaveEarnings position reached groups → (place : ℕ)
      → earn (drop place (trains_in groups)) ≡ earned_from groups place
  earned_is [] earnings zero = refl
  earned_is [] earnings (suc place) = refl
  earned_is (group ∷ groups) earnings place =
      from_place group.kind (trains_in groups) group.may_earn group.count place earnings.0
      ∙ ap (λ (n : ℕ). (group.count - place) * group.may_earn + n) (earned_is groups earnings.1 (place - group.count))

-- the trains of a kind among some
one_more : (n : ℕ) → suc n ≡ 1 + n
one_more n = omega arith

pub kind_counted : (kind : Kind) (trains : List Kind)
    → in_number kind trains ≡ count_by (λ train. same_kind train kind) trains
kind_counted kind trains = is_sum_by (in_number kind) (λ train. cond (same_kind train kind) 1 0) refl
    (λ train rest. refl) trains

pub only_kind : (kind : Kind) (trains : List Kind)
    → replicate (in_number kind trains) kind ≡ for_each (λ train. if same_kind train kind then train ∷ [] else [])
    trains
only_kind kind [] = refl
only_kind kind (train ∷ trains) = by_test (same_kind train kind) refl (only_kind kind trains)
  where
    by_test :
        (b : Bool) → same_kind train kind ≡ b → replicate (in_number kind trains) kind
        ≡ for_each (λ train. if same_kind train kind then train ∷ [] else []) trains →
        replicate ((if b then 1 else 0) + in_number kind trains) kind
        ≡ (if b then train ∷ [] else []) ++ for_each (λ train. if same_kind train kind then train ∷ [] else [])
        trains
    by_test true is rest =
        ap (λ (n : ℕ). replicate n kind) (sym (one_more (in_number kind trains)))
        ∙ (ap (λ (l : List Kind). kind ∷ l) rest
        ∙ ap (λ (k : Kind). k ∷ for_each (λ train. if same_kind train kind then train ∷ [] else []) trains)
        (sym (same_kind_is train kind is)))
    by_test false is rest =
        let none : 0 + in_number kind trains ≡ in_number kind trains = omega arith in
        ap (λ (n : ℕ). replicate n kind) none ∙ rest

-- a group has the trains of its kind
pub record IsGroup (trains : List Kind) (kind : Kind) (group : Group) : Type 0 where
  pub its_kind : group.kind ≡ kind
  pub its_count : group.count ≡ count_by (λ train. same_kind train kind) trains

group_is :
    (trains : List Kind) (kind : Kind) (group : Group) → IsGroup trains kind group →
    replicate group.count group.kind ≡ for_each (λ train. if same_kind train kind then train ∷ [] else []) trains
group_is trains kind group is =
    ap (λ (k : Kind). replicate group.count k) is.its_kind
    ∙ (ap (λ (n : ℕ). replicate n kind) (is.its_count ∙ sym (kind_counted kind trains)) ∙ only_kind kind trains)

sizes : (trains : List Kind) → in_number Diesel trains
    + (in_number Six trains + (in_number Five trains
    + (in_number Four trains + (in_number Three trains + in_number Two trains)))) ≡ length trains
sizes [] = refl
sizes (Two ∷ trains) = omega (arith, sizes trains)
sizes (Three ∷ trains) = omega (arith, sizes trains)
sizes (Four ∷ trains) = omega (arith, sizes trains)
sizes (Five ∷ trains) = omega (arith, sizes trains)
sizes (Six ∷ trains) = omega (arith, sizes trains)
sizes (Diesel ∷ trains) = omega (arith, sizes trains)

group_size : (group : Group) (groups : List Group)
    → length (trains_in (group ∷ groups)) ≡ group.count + length (trains_in groups)
group_size group groups =
    length-append (replicate group.count group.kind) (trains_in groups)
    ∙ ap (λ (n : ℕ). n + length (trains_in groups)) (length-replicate group.count group.kind)

module _ (trains : List Kind) (d six five four three two : Group) (is_d : IsGroup trains Diesel d)
    (is_six : IsGroup trains Six six) (is_five : IsGroup trains Five five) (is_four : IsGroup trains Four four)
    (is_three : IsGroup trains Three three) (is_two : IsGroup trains Two two) where
  abbrev pub all_groups : List Group
  all_groups = d ∷ six ∷ five ∷ four ∷ three ∷ two ∷ []

  abbrev only : Kind → List Kind
  only kind = for_each (λ train. if same_kind train kind then train ∷ [] else []) trains

  abbrev prefix : Group → List Kind
  prefix group = replicate group.count group.kind

  pub groups_in_order : trains_in all_groups ≡ greatest_first trains
  groups_in_order =
      ap (λ (l : List Kind). l ++ trains_in (six ∷ five ∷ four ∷ three ∷ two ∷ [])) (group_is trains Diesel d is_d)
      ∙ (ap (λ (l : List Kind). only Diesel ++ (l ++ trains_in (five ∷ four ∷ three ∷ two ∷ [])))
      (group_is trains Six six is_six)
      ∙ (ap (λ (l : List Kind). only Diesel ++ (only Six ++ (l ++ trains_in (four ∷ three ∷ two ∷ []))))
      (group_is trains Five five is_five)
      ∙ (ap (λ (l : List Kind). only Diesel ++ (only Six ++ (only Five ++ (l ++ trains_in (three ∷ two ∷ [])))))
      (group_is trains Four four is_four)
      ∙ (ap (λ (l : List Kind). only Diesel ++ (only Six
      ++ (only Five ++ (only Four ++ (l ++ trains_in (two ∷ [])))))) (group_is trains Three three is_three)
      ∙ ap (λ (l : List Kind). only Diesel ++ (only Six ++ (only Five ++ (only Four ++ (only Three ++ (l ++ []))))))
      (group_is trains Two two is_two)))))

  size_of : (kind : Kind) (group : Group) → IsGroup trains kind group → group.count ≡ in_number kind trains
  size_of kind group is = is.its_count ∙ sym (kind_counted kind trains)

  pub groups_size : length (trains_in all_groups) ≡ length trains
  groups_size =
      let a = group_size d (six ∷ five ∷ four ∷ three ∷ two ∷ []) in
      let b = group_size six (five ∷ four ∷ three ∷ two ∷ []) in
      let e = group_size five (four ∷ three ∷ two ∷ []) in
      let f = group_size four (three ∷ two ∷ []) in
      let h = group_size three (two ∷ []) in
      let i = group_size two [] in
      let j = size_of Diesel d is_d in
      let k = size_of Six six is_six in
      let l = size_of Five five is_five in
      let m = size_of Four four is_four in
      let n = size_of Three three is_three in
      let o = size_of Two two is_two in
      omega (arith, a, b, e, f, h, i, j, k, l, m, n, o, sizes trains)
