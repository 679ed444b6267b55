-- An open keeps a firm mesh firm, whatever it answers.
use Rattle.std.specs.Prelude.{◌≡◌, ℕ, Bool, true, false, List, Option, Some, None, All, IsSomeAnd, is_some}
use Rattle.std.proofs.Common.{refl, sym, subst}
use Rattle.geo_base.specs.declared.request.Counts.{Counts}
use Rattle.geo_base.specs.declared.errno.Errno.{Errno}
use Rattle.geo_model.specs.Words.{same_name}
use Rattle.geo_model.specs.Topology.{Provider, provider_at, find_provider}
use Rattle.geo_model.specs.Opens.{open_refusal, with_opener}
use Rattle.geo_model.specs.World.{World, granted_in, handle_of}
use Rattle.geo_model.specs.WorldEvents.{after_open}
use Rattle.geo_model.specs.HandleCommands.{with_handle, open_answered, do_open}
use Rattle.geo_model.specs.Fitting.{Firm}
use Rattle.geo_laws_graph.proofs.Finding.{found_lives}
use Rattle.geo_laws_graph.proofs.Lists.{found_itself}
use Rattle.geo_laws_graph.proofs.Living.{sound-order}
use Rattle.geo_laws_counts.proofs.LimitFacts.{all_of}
use Rattle.geo_laws_counts.specs.AllowedLaws.{IsAllowed}
use Rattle.geo_laws_counts.proofs.Refusing.{opened_allowed}
use Rattle.geo_laws_life.specs.EffectLaws.{Lives}
use Rattle.geo_laws_life.proofs.Announced.{announces_keep}
use Rattle.geo_laws_life.proofs.Found.{found-with, some-there}
use Rattle.geo_laws_handles.specs.OpenLaws.{OpensStayFirm}
use Rattle.geo_laws_life.proofs.UsedNumber.{number_firm}
use Rattle.geo_laws_handles.proofs.Opened.{agree, granted, opened-firm}

-- a new handle
with_handle-firm : (w : World) (actor : ℕ) (name prov : List ℕ) (p : ℕ) (grant : Counts)
    → find_provider w.topology prov ≡ Some p → open_refusal (granted_in w) w.topology prov grant ≡ None → Firm w
    → Firm (with_handle w actor name p grant)
with_handle-firm w actor name prov p grant named passes firm =
    let x = found-with (provider_at w.topology p) (λ x. same_name x.name prov ≡ true)
    (found_lives.named w.topology prov p (sound-order w firm.graph.numbers) named) in
    let after = granted_in (with_handle w actor name p grant) in
    let allowed = opened_allowed (granted_in w) w.topology (granted_in (with_handle w actor name p grant)) prov
    (agree w firm actor name p grant)
    (subst (λ g. open_refusal (granted_in w) w.topology prov g ≡ None)
    (sym (granted w firm actor name p grant)) passes)
    in
    opened-firm w firm actor name p grant x.item x.is
    (subst (λ o. IsSomeAnd o (λ q. IsAllowed (granted_in (with_handle w actor name p grant))
    (with_opener w.topology q) q))
    named allowed)

-- each provider lives, as before
all_live : (w : World) → Firm w → (actor : ℕ) (name : List ℕ) (p : ℕ) (grant : Counts)
    → All (λ x. Lives (with_handle w actor name p grant) x.number) w.topology.providers
all_live w firm actor name p grant =
    all_of (λ (x : Provider). Lives w x.number) w.topology.providers (λ x here.
    some-there (provider_at w.topology x.number) x
    (found_itself (λ (y : Provider). y.number) w.topology.next_provider w.topology.providers x
    (sound-order w firm.graph.numbers).providers here))

-- a new handle, and what follows
pub opened_on-firm : (w : World) (actor : ℕ) (name prov : List ℕ) (p : ℕ) (grant : Counts)
    → find_provider w.topology prov ≡ Some p → open_refusal (granted_in w) w.topology prov grant ≡ None → Firm w
    → Firm (after_open w (with_handle w actor name p grant))
opened_on-firm w actor name prov p grant named passes firm =
    announces_keep.opened w (with_handle w actor name p grant) (all_live w firm actor name p grant)
    (with_handle-firm w actor name prov p grant named passes firm)

-- by what refuses it
answered-firm : (w : World) (line actor : ℕ) (name prov : List ℕ) (grant : Counts) (o : Option ℕ)
    → find_provider w.topology prov ≡ o → (e : Option Errno)
    → open_refusal (granted_in w) w.topology prov grant ≡ e → Firm w
    → Firm (open_answered w line actor name o grant e).0
answered-firm w line actor name prov grant None named None passes firm = firm
answered-firm w line actor name prov grant None named (Some e) passes firm = firm
answered-firm w line actor name prov grant (Some p) named None passes firm =
    opened_on-firm w actor name prov p grant named passes firm
answered-firm w line actor name prov grant (Some p) named (Some e) passes firm = number_firm w firm

-- by whether the actor has a handle of the name
open-by : (w : World) (line actor : ℕ) (name prov : List ℕ) (grant : Counts) (b : Bool)
    → is_some (handle_of w actor name) ≡ b → Firm w → Firm (do_open w line actor name prov grant).0
open-by w line actor name prov grant true has firm = rw has firm
open-by w line actor name prov grant false has firm =
    rw has (answered-firm w line actor name prov grant (find_provider w.topology prov) refl
    (open_refusal (granted_in w) w.topology prov grant) refl firm)

-- opens keep a firm mesh firm
pub opens_stay_firm : OpensStayFirm
opens_stay_firm = record {
  number = λ w firm. number_firm w firm;
  opened = with_handle-firm;
  answered = λ w line actor name prov grant firm.
      open-by w line actor name prov grant (is_some (handle_of w actor name)) refl firm;
}
