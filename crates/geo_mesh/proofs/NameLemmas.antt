-- Names after each change of the providers.
use Rattle.std.proofs.Common.{arith, ◌≡◌, ℕ, ◌==◌, List, [], ◌∷◌, ◌++◌, map, Bool, true, false, Some, None, Option, sym, refl, ap, ◌∙◌, not, filter, filter_map, find, ◌+◌, rules}
use Rattle.std.specs.Prelude.{if◌then◌else◌, ◌&&◌}
use Rattle.std.specs.Option.{option_or, option_map}
use Rattle.geo_model.specs.Words.{change_where, same_name}
use Rattle.geo_model.specs.Topology.{Provider}
use Rattle.geo_mesh.specs.declared.records.ProvCell.{ProvCell}
use Rattle.geo_mesh.specs.Cells.{provider_row}
use Rattle.geo_mesh.specs.Names.{is_sound_named, OneEach, AreNames, sound_of, AddsName, RemovesName, SameNames}
use Rattle.geo_names.proofs.Rows.{is_same}
use Rattle.geo_mesh.proofs.RowLemmas.{OnlyValue}
use Rattle.std.proofs.lemmas.List.{map-append}
use Rattle.std.specs.List.{last_or}
use Rattle.geo_laws_graph.proofs.Lists.{find-changed}
use Rattle.geo_names.specs.Names.{last_named}
use Rattle.geo_mesh.specs.declared.names.Names.{Names}
use Rattle.geo_mesh.proofs.IndexLemmas.{map-change_where, map-filter_row}

-- each provider of the number is this one
abbrev pub OnlyProvider : ℕ → Provider → List Provider → Type 0
OnlyProvider n x [] = Unit {0}
OnlyProvider n x (y ∷ ys) = ((y.number == n) ≡ true → y ≡ x) × OnlyProvider n x ys

-- a provider with an error isn't one without an error of any name
pub errored_fails : (name : List ℕ) (z : Provider) → z.errored ≡ true → is_sound_named name z ≡ false
errored_fails name z e = rw e refl

module _ {X : Type 0} (test : X → Bool) where
  -- where none is found, neither the first passes nor one of the others
  missed : (y : X) (ys : List X) → find test (y ∷ ys) ≡ None → (test y ≡ false) × (find test ys ≡ None)
  missed y ys none = search rules

  -- with one item more at the end: what was found before, else that item if it passes
  find-push : (x : X) (ys : List X)
      → find test (ys ++ x ∷ []) ≡ option_or (find test ys) (if test x then Some x else None)
  find-push x [] = refl
  find-push x (y ∷ ys) = grind (arith, find-push x ys)

  -- one item more in front of one that is found and passes another test too
  found_step : (other : X → Bool) (x y : X) (ys : List X) (b : Bool) → test y ≡ b → find test (y ∷ ys) ≡ Some x
      → other x ≡ true → find other (y ∷ ys) ≡ None
      → (find test ys ≡ Some x → find other ys ≡ None → ⊥) → (other y ≡ false) × (find other ys ≡ None) → ⊥
  found_step other x y ys true e found passes none so miss = search rules
  found_step other x y ys false e found passes none so miss = so (rw e at found) miss.1

-- who is found and passes another test is found by that too
found_too : {X : Type 0} (test other : X → Bool) (x : X) (ys : List X) → find test ys ≡ Some x → other x ≡ true
    → find other ys ≡ None → ⊥
found_too test other x [] found passes none = let never : None ≡ Some x = found in cc
found_too test other x (y ∷ ys) found passes none =
    found_step test other x y ys (test y) refl found passes none (λ f m. found_too test other x ys f passes m)
    (missed other y ys none)

-- The providers with that of a number marked by an error, or gone
module _ (n : ℕ) (mark : Provider → Option Provider) (marked : (y z : Provider) → mark y ≡ Some z
    → z.errored ≡ true) where
  -- the provider of the number marked or gone, another one as it is
  abbrev pub retire : Provider → Option Provider
  retire y = if y.number == n then mark y else Some y

  -- all the providers so
  abbrev pub retired : List Provider → List Provider
  retired ys = filter_map retire ys

  -- another one is found if it is of the name, else one behind it
  kept-find : (name : List ℕ) (y : Provider) (ys : List Provider) (b : Bool) → (y.number == n) ≡ false
      → is_sound_named name y ≡ b
      → find (is_sound_named name) (retired (y ∷ ys)) ≡ (if b then Some y else find (is_sound_named name) (retired ys))
  kept-find name y ys b apart e = rw (apart, e) refl

  -- a name that had no provider without an error has none after
  pub retired-none : (name : List ℕ) (ys : List Provider) → find (is_sound_named name) ys ≡ None
      → find (is_sound_named name) (retired ys) ≡ None
  retired-none name [] none = refl
  retired-none name (y ∷ ys) none = search (rules, retired-none name ys)

  -- one provider more in front: the one of the number, one of the name, or neither
  same_step : (name : List ℕ) (x y : Provider) (ys : List Provider) (a b : Bool) → (y.number == n) ≡ a
      → is_sound_named name y ≡ b
      → ((y.number == n) ≡ true → y ≡ x) → is_sound_named name x ≡ false
      → find (is_sound_named name) (retired ys) ≡ find (is_sound_named name) ys
      → find (is_sound_named name) (retired (y ∷ ys)) ≡ find (is_sound_named name) (y ∷ ys)
  same_step name x y ys true b e f is fails so = search rules
  same_step name x y ys false true e f is fails so = kept-find name y ys true e f ∙ rw f refl
  same_step name x y ys false false e f is fails so = search rules

  -- what isn't that of the number is found as before
  pub retired-same : (name : List ℕ) (x : Provider) (ys : List Provider) → OnlyProvider n x ys
      → is_sound_named name x ≡ false → find (is_sound_named name) (retired ys) ≡ find (is_sound_named name) ys
  retired-same name x [] only fails = refl
  retired-same name x (y ∷ ys) only fails =
      same_step name x y ys (y.number == n) (is_sound_named name y) refl refl only.0 fails
      (retired-same name x ys only.1 fails)

  -- one provider more in front: the one of the number, another of the name, or neither
  gone_step : (x y : Provider) (ys : List Provider) (a b : Bool) → (y.number == n) ≡ a
      → is_sound_named x.name y ≡ b → x.errored ≡ false
      → OnlyProvider n x (y ∷ ys) → OneEach (y ∷ ys) → find (λ z. z.number == n) (y ∷ ys) ≡ Some x
      → (find (λ z. z.number == n) ys ≡ Some x → find (is_sound_named x.name) (retired ys) ≡ None)
      → find (is_sound_named x.name) (retired (y ∷ ys)) ≡ None
  gone_step x y ys true b e f sound only one found so = search (rules, retired-none x.name ys)
  gone_step x y ys false true e f sound only one found so =
      search (rules, found_too (λ z. z.number == n) (is_sound_named x.name) x ys)
  gone_step x y ys false false e f sound only one found so = kept-find x.name y ys false e f ∙ so (rw e at found)

  -- the name of the one of the number has none any more
  pub retired-gone : (x : Provider) (ys : List Provider) → x.errored ≡ false → OnlyProvider n x ys → OneEach ys
      → find (λ z. z.number == n) ys ≡ Some x
      → find (is_sound_named x.name) (retired ys) ≡ None
  retired-gone x [] sound only one found = refl
  retired-gone x (y ∷ ys) sound only one found =
      gone_step x y ys (y.number == n) (is_sound_named x.name y) refl refl sound only one found
      (λ f. retired-gone x ys sound only.1 one.1 f)

  -- one more in front that is marked or gone leaves at most one of each name
  one_marked : (y : Provider) (ys : List Provider) (o : Option Provider) → mark y ≡ o → (y.number == n) ≡ true
      → OneEach (retired ys) → OneEach (retired (y ∷ ys))
  one_marked y ys None e here so = rw (here, e) so
  one_marked y ys (Some z) e here so = search rules

  -- so does one more in front, whether it is that of the number or not
  one_step : (y : Provider) (ys : List Provider) (a : Bool) → (y.number == n) ≡ a
      → (y.errored ≡ false → find (is_sound_named y.name) ys ≡ None) → OneEach (retired ys) → OneEach (retired (y ∷ ys))
  one_step y ys true e one so = one_marked y ys (mark y) refl e so
  one_step y ys false e one so = rw e ((λ sound. retired-none y.name ys (one sound)), so)

  -- still at most one of each name
  pub retired-one : (ys : List Provider) → OneEach ys → OneEach (retired ys)
  retired-one [] one = tt
  retired-one (y ∷ ys) one = one_step y ys (y.number == n) refl one.0 (retired-one ys one.1)

-- One more provider, of a name that none without an error has
module _ (x : Provider) (sound : x.errored ≡ false) where
  -- it is found by its name
  pub pushed-here : (ys : List Provider) → find (is_sound_named x.name) ys ≡ None
      → find (is_sound_named x.name) (ys ++ x ∷ []) ≡ Some x
  pushed-here ys none = find-push (is_sound_named x.name) x ys ∙ rw (none, sound, is_same x.name) refl

  -- and the others are found as before
  pub pushed-other : (name : List ℕ) (ys : List Provider) → same_name x.name name ≡ false
      → find (is_sound_named name) (ys ++ x ∷ []) ≡ find (is_sound_named name) ys
  pushed-other name ys other = search (rules, find-push (is_sound_named name) x ys)

  -- one without an error that isn't found by the new name has another name
  apart : (y : Provider) (b : Bool) → same_name x.name y.name ≡ b → y.errored ≡ false
      → is_sound_named x.name y ≡ false → b ≡ false
  apart y false e clean fails = refl
  apart y true e clean fails = search rules

  -- and still there is at most one of each name
  pub pushed-one : (ys : List Provider) → OneEach ys → find (is_sound_named x.name) ys ≡ None → OneEach (ys ++ x ∷ [])
  pushed-one [] one none = ((λ _. refl), tt)
  pushed-one (y ∷ ys) one none = search (rules, pushed-other y.name ys, pushed-one ys one.1)

-- a provider with an error
abbrev pub with_error : Provider → Provider
with_error y = record y { errored = true }

-- a mark, and a removal, by number
pub retired-change : (n : ℕ) (ys : List Provider)
    → filter_map (λ (y : Provider). if y.number == n then Some (with_error y) else Some y) ys
    ≡ change_where (λ y. y.number == n) (λ y. record y { errored = true }) ys
retired-change n [] = refl
retired-change n (y ∷ ys) = grind (arith, retired-change n ys)

-- a removal leaves the providers of the other numbers
pub retired-filter : (n : ℕ) (ys : List Provider)
    → filter_map (λ (y : Provider). if y.number == n then None else Some y) ys ≡ filter (λ y. not (y.number == n)) ys
retired-filter n [] = refl
retired-filter n (y ∷ ys) = grind (arith, retired-filter n ys)

-- the only value under a number is the only provider of it
pub only_provider : (n : ℕ) (v : ProvCell) (rows : List (ℕ × ProvCell)) → OnlyValue n v rows
    → OnlyProvider n (provider_row (n, v)) (map provider_row rows)
only_provider n v [] only = tt
only_provider n v (row ∷ rows) only = ((λ here. ap provider_row (only.0 here)), only_provider n v rows only.1)

-- Names after each call.

module _ (ps : List Provider) (next : ℕ) (old new : Names) (are : AreNames ps next old) where
  -- the same names
  pub names-same : SameNames old new → AreNames ps next new
  names-same same = search rules

  module _ (n : ℕ) (change : Provider → Provider) (number : (x : Provider)
      → (change x).number ≡ x.number) (named : (x : Provider) → (change x).name ≡ x.name)
      (errored : (x : Provider) → (change x).errored ≡ x.errored) where
    -- one provider more, which is changed or not, leaves at most one of each name
    one_changed : (y : Provider) (ys : List Provider) (b : Bool) → (y.number == n) ≡ b
        → (y.errored ≡ false → find (is_sound_named y.name) ys ≡ None)
        → OneEach (change_where (λ z. z.number == n) change ys)
        → OneEach (change_where (λ z. z.number == n) change (y ∷ ys))
    one_changed y ys b e one rest = search (rules, find-changed)

    -- so among all
    one_kept : (ys : List Provider) → OneEach ys → OneEach (change_where (λ z. z.number == n) change ys)
    one_kept [] one = tt
    one_kept (y ∷ ys) one = one_changed y ys (y.number == n) refl one.0 (one_kept ys one.1)

    -- a provider that is changed but keeps its number, its name and whether it carries an error leaves the names
    pub names-changed : AreNames (change_where (λ y. y.number == n) change ps) next old
    names-changed = record {
      sound = search (rules, find-changed (λ (z : Provider). z.number == n) change);
      one = one_kept ps are.one;
      all = are.all
          ∙ sym (map-change_where (λ (y : Provider). (y.number, y.name)) (λ y. y.number == n) change
          (λ y. λ k. (number y k, named y k)) ps);
      next_all = are.next_all;
    }

  -- one more provider
  pub names-added : (x : Provider) → x.errored ≡ false → x.number ≡ next → find (is_sound_named x.name) ps ≡ None
      → AddsName old new x.name x.number → AreNames (ps ++ x ∷ []) (next + 1) new
  names-added x sound number free adds = record {
    sound = search (rules, pushed-here x sound ps free, pushed-other x sound);
    one = pushed-one x sound ps are.one free;
    all =
        ap (λ v. v.rows) adds.all
        ∙ (λ i. are.all i ++ ((are.next_all ∙ sym number) i, x.name) ∷ [])
        ∙ sym (map-append (λ (y : Provider). (y.number, y.name)) ps (x ∷ []));
    next_all = ap (λ v. v.next) adds.all ∙ ap (λ k. k + 1) are.next_all;
  }

  module _ (n : ℕ) (x : Provider) (only : OnlyProvider n x ps) (found : find (λ z. z.number == n) ps ≡ Some x)
      (retires : (q : List ℕ)
      → sound_of new q ≡ (if not x.errored && same_name x.name q then None else sound_of old q)) where
    -- the provider without an error of a name, once one was marked or went
    retired_step : (mark : Provider → Option Provider) (marked : (y z : Provider) → mark y ≡ Some z
        → z.errored ≡ true) (name : List ℕ) (a b : Bool) → x.errored ≡ a → same_name x.name name ≡ b
        → sound_of new name
        ≡ option_map (λ (y : Provider). y.number) (find (is_sound_named name) (retired n mark marked ps))
    retired_step mark marked name true b e f =
        retires name ∙ rw (e, retired-same n mark marked name x ps only (errored_fails name x e)) (are.sound name)
    retired_step mark marked name false true e f = search (rules, retired-gone n mark marked x ps e only are.one found)
    retired_step mark marked name false false e f =
        retires name ∙ rw (e, f, retired-same n mark marked name x ps only (rw (e, f) refl)) (are.sound name)

    -- who got an error carries one
    error_marked : (y z : Provider) → Some (with_error y) ≡ Some z → z.errored ≡ true
    error_marked y z is = let e : with_error y ≡ z = cc in sym (ap (λ w. w.errored) e)

    -- a provider that gets an error
    pub names-marked : new.all ≡ old.all
        → AreNames (change_where (λ y. y.number == n) (λ y. record y { errored = true }) ps) next new
    names-marked all = record {
      sound = search (rules, retired_step (λ y. Some (with_error y)) error_marked, retired-change n ps);
      one = search (rules, retired-change n ps, retired-one n (λ y. Some (with_error y)) error_marked ps are.one);
      all = ap (λ v. v.rows) all
          ∙ are.all
          ∙ sym (map-change_where (λ (y : Provider). (y.number, y.name)) (λ y. y.number == n)
          (λ y. record y { errored = true }) (λ y. refl) ps);
      next_all = ap (λ v. v.next) all ∙ are.next_all;
    }

    -- nothing is left of one that goes
    never_marked : (y z : Provider) → None ≡ Some z → z.errored ≡ true
    never_marked y z never = absurd (cc)

    -- a provider that goes
    pub names-removed : RemovesName old new x.name n x.errored
        → AreNames (filter (λ y. not (y.number == n)) ps) next new
    names-removed removes =
        search (
          rules,
          retired_step (λ y. None) never_marked,
          retired-filter n ps,
          retired-one n (λ y. None) never_marked ps are.one,
          map-filter_row (λ (y : Provider). y.number) (λ y. y.name) n ps,
        )

-- The provider of a name with the greatest number

module _ (name : List ℕ) where
  -- the last row of the name is the last provider of the name
  newest_from : (xs : List Provider) (o : Option (ℕ × List ℕ)) (p : Option Provider)
      → option_map (λ (r : ℕ × List ℕ). r.0) o ≡ option_map (λ (y : Provider). y.number) p
      → option_map (λ (r : ℕ × List ℕ). r.0)
      (last_or o (filter (λ r. same_name r.1 name) (map (λ (y : Provider). (y.number, y.name)) xs)))
      ≡ option_map (λ (y : Provider). y.number) (last_or p (filter (λ (y : Provider). same_name y.name name) xs))
  newest_from [] o p so = so
  newest_from (x ∷ xs) o p so =
      grind (arith, newest_from xs (Some (x.number, x.name)) (Some x) refl, newest_from xs o p so)

-- the newest provider of a name, by the names
pub newest-names : (ps : List Provider) (next : ℕ) (n : Names) → AreNames ps next n → (name : List ℕ)
    → last_named n.all.rows name
    ≡ option_map (λ (x : Provider). x.number) (last_or None (filter (λ (x : Provider). same_name x.name name) ps))
newest-names ps next n are name = search (rules, newest_from name ps None None)
