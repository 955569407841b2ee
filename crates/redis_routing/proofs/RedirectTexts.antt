-- The one way to read the text of a redirect.
use Rattle.std.proofs.Common.{◌≡◌, ◌≢◌, ◌<◌, ℕ, zero, suc, inl, inr, List, [], ◌∷◌, ◌++◌, length, get_or, drop, replicate, Option, Some, None, MatchOption, Bor, ap, sym, ◌∙◌, subst, arith, lit<}
use Rattle.std.specs.Prelude.{codes}
use Rattle.std.specs.Str.Pattern.{StripsPrefix, FindsTextPrefix}
use Rattle.std.proofs.lemmas.Str.Pattern.{IsSplitOnceResult, split_parts}
use Rattle.std.proofs.lemmas.Grind.{common_steps}
use Rattle.cluster_slots.specs.AddressText.{IsAddressText, IsNoAddress}
use Rattle.cluster_slots.specs.Number.{number_in}
use Rattle.cluster_slots.proofs.AddressTexts.{one_address, lacks_each}
use Rattle.cluster_slots.proofs.Lists.{Lacks, lacks_from, has, first_cut}
use Rattle.redis_routing.specs.declared.info.Redirect.TheVariants.{Moved, Ask}
use Rattle.redis_routing.specs.RedirectText.{IsNodeText, IsNoRedirect, TellsNode, unknown_host}

pub lacks_at : (c : ℕ) (bs : List ℕ) (k : ℕ) → Lacks c bs → k < length bs → get_or bs k 0 ≢ c
lacks_at c [] k h l e = absurd (omega arith)
lacks_at c (b ∷ bs) zero h l e = h.0 e
lacks_at c (b ∷ bs) (suc k) h l e = lacks_at c bs k h.1 (omega arith) e

pub at_space : (text : List ℕ) (r : Option (Bor (List ℕ) × Bor (List ℕ))) → IsSplitOnceResult 32 text r → MatchOption r (Lacks 32 text) (λ x. (text ≡ x.0.now ++ 32 ∷ x.1.now) × Lacks 32 x.0.now)
at_space text None h = lacks_each 32 text (split_parts 32 text None h (lit< tt))
at_space text (Some x) h = let w = split_parts 32 text (Some x) h (lit< tt) in (w.0, lacks_each 32 x.0.now w.1)

-- a text without a space tells nothing
pub no_space : (answering text : List ℕ) → Lacks 32 text → (slot : ℕ) (host : List ℕ) (port : ℕ) → ¬ (TellsNode answering text slot host port)
no_space answering text none slot host port t = has 32 t.number t.node (subst (Lacks 32) t.whole none)

-- a text with one is cut there
pub same_cut : (answering text number node : List ℕ) (slot : ℕ) (host : List ℕ) (port : ℕ) → text ≡ number ++ 32 ∷ node → Lacks 32 number → (t : TellsNode answering text slot host port) → (number ≡ t.number) × (node ≡ t.node)
same_cut answering text number node slot host port e none t = first_cut 32 number node t.number t.node (sym e ∙ t.whole) none (lacks_from 32 t.number t.first)

-- the node
pub no_node : (answering text : List ℕ) → IsNoAddress text → ((rest : List ℕ) → text ≢ 58 ∷ rest) → (host : List ℕ) (port : ℕ) → ¬ (IsNodeText answering text host port)
no_node answering text none bare host port (inl named) = none host port named.0
no_node answering text none bare host port (inr alone) = bare alone.digits alone.whole

pub no_port : (answering text rest : List ℕ) → IsNoAddress text → text ≡ 58 ∷ rest → None ≡ number_in 16 rest → (host : List ℕ) (port : ℕ) → ¬ (IsNodeText answering text host port)
no_port answering text rest none e bad host port (inl named) = none host port named.0
no_port answering text rest none e bad host port (inr alone) = grind (arith, common_steps)

-- a port alone names none where the node that answered has no host
pub no_answering : (answering text : List ℕ) → IsNoAddress text → answering ≡ [] → (host : List ℕ) (port : ℕ) → ¬ (IsNodeText answering text host port)
no_answering answering text none empty host port (inl named) = none host port named.0
no_answering answering text none empty host port (inr alone) = alone.some (alone.same ∙ empty)

-- the text of an unknown host begins with it, or with a bracket
unknown_first : (opens closes : ℕ) (right rest : List ℕ) → (replicate opens 91 ++ unknown_host ++ replicate closes 93) ++ 58 ∷ right ≡ 58 ∷ rest → ⊥
unknown_first zero closes right rest e = grind (arith, common_steps)
unknown_first (suc opens) closes right rest e = grind (arith, common_steps)

-- an address with an unknown host names no node
pub no_host : (answering text known : List ℕ) (number : ℕ) → IsAddressText text known number → known ≡ unknown_host → (host : List ℕ) (port : ℕ) → ¬ (IsNodeText answering text host port)
no_host answering text known number read same host port (inl named) = named.1 ((one_address text host known port number named.0 read).0 ∙ same)
no_host answering text known number (left, right, reads) same host port (inr alone) = grind (arith, unknown_first)

-- the word
pub stripped : (word text rest : List ℕ) → StripsPrefix (FindsTextPrefix word) text rest → text ≡ word ++ rest
stripped word text rest (n, (k, whole, edge), back, long) = whole ∙ ap (λ y. word ++ y) (sym back)

pub no_moved : (answering text told : List ℕ) → text ≡ codes "MOVED " ++ told → ((slot : ℕ) (host : List ℕ) (port : ℕ) → ¬ (TellsNode answering told slot host port)) → IsNoRedirect answering text
no_moved answering text told e none slot (Moved address) (back, whole, t) =
    let same : codes "MOVED " ++ back ≡ codes "MOVED " ++ told = sym whole ∙ e in
    let tail : back ≡ told = ap (drop 6) same in
    none slot address.host address.port (subst (λ x. TellsNode answering x slot address.host address.port) tail t)
no_moved answering text told e none slot (Ask address) (back, whole, t) = grind (arith, common_steps)

pub no_ask : (answering text told : List ℕ) → text ≡ codes "ASK " ++ told → ((slot : ℕ) (host : List ℕ) (port : ℕ) → ¬ (TellsNode answering told slot host port)) → IsNoRedirect answering text
no_ask answering text told e none slot (Ask address) (back, whole, t) =
    let same : codes "ASK " ++ back ≡ codes "ASK " ++ told = sym whole ∙ e in
    let tail : back ≡ told = ap (drop 4) same in
    none slot address.host address.port (subst (λ x. TellsNode answering x slot address.host address.port) tail t)
no_ask answering text told e none slot (Moved address) (back, whole, t) = grind (arith, common_steps)
