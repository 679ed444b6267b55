-- What a step of a view leaves as it was.
use Rattle.std.proofs.Common.{◌≡◌, ◌≢◌, ℕ, zero, suc, ◌+◌, ◌*◌, ◌/◌, ⊎_elim, List, [], ◌∷◌, get_or, set, Bool, true, false, Some, None, ◌∙◌, sym, ap, subst, arith}
use mathlib.Core.Option.{some, some-injective, some-ne-none}
use mathlib.Core.List.{IsPrefix}
use lib.ListN.{get_elem?}
use Rattle.atomic_table.proofs.Lists.{at_set}
use Rattle.geo_lock.proofs.Prefixes.{prefix_trans}
use Rattle.geo_model.specs.declared.step.Entry.{Entry}
use Rattle.geo_jobs.specs.Passes.{MeshPass}
use Rattle.geo_jobs.specs.declared.role.Role.{Role}
use Rattle.geo_jobs.specs.declared.known.Known.{Known}
use Rattle.geo_jobs.specs.declared.shown.Shown.{Shown}
use Rattle.geo_jobs.specs.Kept.{Slot, ViewState, Layout, bit, Plays, Knows, IsKept}
use Rattle.geo_jobs.specs.Views.{AllBegin}

pub differ : {P : Type 0} → true ≡ false → P
differ e = absurd (cc e)

-- the slot that a word names
pub half : (m : ℕ) (b : Bool) (r : ℕ) → r ≡ 2 * m + bit b → r / 2 ≡ m
half m true r e = omega arith
half m false r e = omega arith

-- the list that is carried
abbrev pub carried_list : Shown → List (ℕ × Slot) → Shown
carried_list d [] = d
carried_list d (y ∷ ys) = elim y.1 [ Some z ↦ z | None ↦ d ]

-- a slot that was taken carries the list that it has
module _ (d : Shown) {e : Shown} {n : ℕ} {z : Slot} {had got others : List (ℕ × Slot)} (slot : got ≡ had)
    (out : got ≡ (n, z) ∷ others) (some : z ≡ Some e) where
  pub carried_same : carried_list d had ≡ e
  carried_same = ap (carried_list d) (sym slot ∙ out) ∙ ap (λ (x : Slot). carried_list d ((n, x) ∷ others)) some

pub none_begins : (log : List Entry) → AllBegin [] log
none_begins log i t e = absurd (some-ne-none t (sym e))

pub one_more_begins : (seen : List Entry) (told : List (List Entry)) (log : List Entry) → IsPrefix seen log
    → AllBegin told log → AllBegin (seen ∷ told) log
one_more_begins seen told log p b zero t e = subst (λ (z : List Entry). IsPrefix z log) (some-injective seen t e) p
one_more_begins seen told log p b (suc i) t e = b i t e

module _ (from : MeshPass) where
  -- the word names the slot that waits
  pub names_middle : (s : ViewState) (r : IsKept from s) → get_or s.words 0 0 / 2 ≡ r.layout.middle
  names_middle s r = half r.layout.middle r.layout.fresh _ (ap (λ (ws : List ℕ). get_or ws 0 0) r.word)

  -- what the seat's role says of the layout
  pub plays : (p : Layout) (j : ℕ) (d : Known) (role : Role) → Knows from p j d → d.role ≡ role → Plays p j d.seen role
  plays p j d role k is = subst (λ (z : Role). Plays p j d.seen z) is k.part

  -- the facts of the views, where the view `me` becomes w
  pub views_stay : (p : Layout) (vs : List Known) (me : ℕ) (w : Known) → Knows from p me w
      → ((j : ℕ) (d : Known) → j ≢ me → get_elem? vs j ≡ some d → Knows from p j d) → (j : ℕ) (d : Known)
      → get_elem? (set vs me w) j ≡ some d → Knows from p j d
  views_stay p vs me w mine others j d e =
      ⊎_elim (λ (t : (j ≡ me) × (w ≡ d)).
      subst (λ (x : ℕ × Known). Knows from p x.0 x.1) (λ i. (sym t.0 i, t.1 i)) mine)
      (λ (t : (j ≢ me) × (get_elem? vs j ≡ some d)). others j d t.0 t.1) (at_set vs me j w d e)

  -- what another seat says, over a step that keeps its part
  pub moves : (p q : Layout) → IsPrefix p.latest q.latest → (j : ℕ)
      → ((seen : List Entry) (role : Role) → Plays p j seen role → Plays q j seen role) → (d : Known)
      → Knows from p j d → Knows from q j d
  moves p q longer j part d k = record {
    of = k.of;
    seen = prefix_trans d.seen p.latest q.latest k.seen longer;
    told = λ i t e. prefix_trans t p.latest q.latest (k.told i t e) longer;
    part = part d.seen d.role k.part;
  }

  -- only what one seat knows changes
  pub reviews : (s : ViewState) (r : IsKept from s) (id : ℕ) (w : Known) → Knows from r.layout id w
      → IsKept from record { words = set s.words 0 (get_or s.words 0 0); homes = s.homes; views = set s.views id w }
  reviews s r id w mine = record {
    layout = r.layout;
    low = r.low;
    apart = r.apart;
    word = ap (λ (ws : List ℕ). set ws 0 (get_or ws 0 0)) r.word;
    long = r.long;
    shown = r.shown;
    back_home = r.back_home;
    front_home = r.front_home;
    each_view = views_stay r.layout s.views id w mine (λ j d ne e. r.each_view j d e);
  }
