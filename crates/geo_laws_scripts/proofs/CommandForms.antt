-- What the tests of a command's words say.
use Rattle.std.specs.Prelude.{ℕ, ◌<◌, ◌^◌, nat_lt, List, length, IsTrue}
use Rattle.std.specs.Bool.{Decides}
use Rattle.std.proofs.lemmas.Bool.Decides.{Decides-and, Decides-or, Decides-not, Decides-like, Decides-eqb, Decides-ltb}
use Rattle.geo_base.specs.Kind.{adds_exclusive}
use Rattle.geo_base.specs.Name.{is_name, is_short_name}
use Rattle.geo_base.specs.declared.kind.Kind.{Kind}
use Rattle.geo_base.specs.declared.kind.Kind.TheVariants as kinds
use Rattle.geo_base.specs.declared.request.Counts.{Counts}
use Rattle.geo_base.specs.declared.limits.TheConstants.{MAX_COMPONENTS, MAX_RUNS_BYTES}
use Rattle.geo_model.specs.declared.command.Command.{Command}
use Rattle.geo_model.specs.declared.command.Command.TheVariants as commands
use Rattle.geo_model.specs.Plans.{IsGrant, IsRunsBytes, AreComponents, IsMark, IsStripe, IsNamedClass, IsCommand}
use Rattle.geo_model.specs.Words.{is_kind}
use Rattle.geo_laws_scripts.specs.CommandForms.{is_grant, is_runs_bytes, are_components, is_mark, is_stripe, is_named_class, is_command}
use Rattle.geo_laws_scripts.proofs.Deciders.{always, itself, at_most, each, three, four, kind_is}

-- the words of a command, part by part
grant : (a : Counts) → Decides (is_grant a) (IsGrant a)
grant a =
    Decides-like _
    (λ h. record { r = h.0; w = h.1; e = h.2; some = h.3 })
    (λ h. (h.r, h.w, h.e, h.some))
    (four _ _ _ _ (at_most a.r 9) (at_most a.w 9) (at_most a.e 9)
    (Decides-or _ _ (Decides-not _ (Decides-eqb a.r 0))
    (Decides-or _ _ (Decides-not _ (Decides-eqb a.w 0)) (Decides-not _ (Decides-eqb a.e 0)))))

runs_bytes : (bytes : List ℕ) → Decides (is_runs_bytes bytes) (IsRunsBytes bytes)
runs_bytes bytes =
    Decides-like _
    (λ h. record { some = h.0; not_long = h.1; each = h.2 })
    (λ h. (h.some, h.not_long, h.each))
    (three _ _ _ (at_most 1 (length bytes)) (at_most (length bytes) MAX_RUNS_BYTES)
    (each _ _ (λ b. Decides-ltb b 256) bytes))

names : (ns : List (List ℕ)) → Decides (are_components ns) (AreComponents ns)
names ns =
    Decides-like _
    (λ h. record { some = h.0; not_many = h.1; each = h.2 })
    (λ h. (h.some, h.not_many, h.each))
    (three _ _ _ (at_most 1 (length ns)) (at_most (length ns) MAX_COMPONENTS)
    (each _ _ (λ n. itself (is_name n)) ns))

mark : (id place count : ℕ) → Decides (is_mark id place count) (IsMark id place count)
mark id place count =
    Decides-like _
    (λ h. record { id_fits = h.0; place_fits = h.1; some_place = h.2; few_places = h.3 })
    (λ h. (h.id_fits, h.place_fits, h.some_place, h.few_places))
    (four _ _ _ _ (Decides-ltb id (2 ^ 32)) (Decides-ltb place (2 ^ 16)) (at_most 1 count)
    (at_most count MAX_COMPONENTS))

stripe_size : (n : ℕ) → Decides (is_stripe n) (IsStripe n)
stripe_size n =
    Decides-like _
    (λ h. record { some = h.0; limited = h.1 })
    (λ h. (h.some, h.limited))
    (Decides-and _ _ (at_most 1 n) (Decides-ltb n (2 ^ 32)))

named_class : (k : Kind) → Decides (is_named_class k) (IsNamedClass k)
named_class k =
    Decides-or (adds_exclusive k) (is_kind k kinds.Nop) (itself (adds_exclusive k)) (kind_is k kinds.Nop)

short : (n : List ℕ) → Decides (is_short_name n) (IsTrue (is_short_name n))
short n = itself (is_short_name n)

long : (n : List ℕ) → Decides (is_name n) (IsTrue (is_name n))
long n = itself (is_name n)

word64 : (n : ℕ) → Decides (nat_lt n (2 ^ 64)) (n < 2 ^ 64)
word64 n = Decides-ltb n (2 ^ 64)

-- a whole command
pub formed : (c : Command) → Decides (is_command c) (IsCommand c)
formed (commands.Open h p a) = three _ _ _ (short h) (long p) (grant a)
formed (commands.Close h) = short h
formed (commands.Read h offset len) = three _ _ _ (short h) (word64 offset) (word64 len)
formed (commands.Write h offset bytes) = three _ _ _ (short h) (word64 offset) (runs_bytes bytes)
formed (commands.Delete h offset len) = three _ _ _ (short h) (word64 offset) (word64 len)
formed (commands.Flush h) = short h
formed commands.Sync = always
formed commands.Settle = always
formed (commands.Insert disk) = short disk
formed (commands.Pull disk) = short disk
formed (commands.Nop p offset size fail) = four _ _ _ _ (long p) (word64 offset) (word64 size) (word64 fail)
formed (commands.Concat name ps) = Decides-and _ _ (short name) (names ps)
formed (commands.Stripe name stripe ps) = three _ _ _ (short name) (stripe_size stripe) (names ps)
formed (commands.Append name p) = Decides-and _ _ (short name) (long p)
formed (commands.Destroy kind geom) = Decides-and _ _ (named_class kind) (long geom)
formed (commands.Label h name) = Decides-and _ _ (short h) (short name)
formed (commands.Relabel h name) = Decides-and _ _ (short h) (short name)
formed (commands.MarkConcat h name id place count) = three _ _ _ (short h) (short name) (mark id place count)
formed (commands.MarkStripe h name id place count stripe) =
    four _ _ _ _ (short h) (short name) (mark id place count) (stripe_size stripe)
formed commands.Mesh = always
