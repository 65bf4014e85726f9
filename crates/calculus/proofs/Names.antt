-- The names of a renamed process; a name that stands nowhere is not missed.
use mathlib.Core.Path.{◌≡◌, refl, sym, ◌∙◌, ap, ap₂}
use mathlib.Core.Logic.{◌⊎◌, inl, inr, ite}
use mathlib.Core.List.Memᴰ
use mathlib.Core.List.{List, [], ◌∷◌, ◌++◌, append_assoc, flat_map}
use Prim.Native.Nat.{ℕ, zero, suc}
use native.Mathlib.Decide.{ℕ_discrete}
use Rattle.calculus.specs.Processes.{Reference, name, variable, Action, sibling_output, parent_output, internal_input, external_input, enter, leave, accept, release, Process, null, parallel, restriction, ambient, action, replication, binders, Renaming, raise, lift, lift_by, rename_all, rename_action, rename, close}
use Rattle.calculus.specs.Names.{Among, names_of_reference, names_of_all, names_of_action, names_of_process}
use Rattle.calculus.specs.Reduction.{◌≅◌, symmetric}
use Rattle.calculus.proofs.Congruence.{restriction_unused}

-- Renamings that agree on variables and on some names

record Same (ns : List ℕ) (σ τ : Renaming) : Type 0 where
  pub names : (m : ℕ) → Among m ns → σ (name m) ≡ τ (name m)
  pub variables : (i : ℕ) → σ (variable i) ≡ τ (variable i)

same_left : {ns : List ℕ} (ms : List ℕ) {σ τ : Renaming} → Same (ns ++ ms) σ τ → Same ns σ τ
same_left ms e = record { names = λ m a. e.names m (Memᴰ.append_left ms a); variables = e.variables }

same_right : (ns : List ℕ) {ms : List ℕ} {σ τ : Renaming} → Same (ns ++ ms) σ τ → Same ms σ τ
same_right ns e = record { names = λ m a. e.names m (Memᴰ.append_right ns a); variables = e.variables }

same_lift : {ns : List ℕ} {σ τ : Renaming} → Same ns σ τ → Same ns (lift σ) (lift τ)
unfolding lift
same_lift e = record { names = λ m a. ap raise (e.names m a); variables = elim [ zero ↦ refl | suc i ↦ ap raise (e.variables i) ] }

same_lift_by : (k : ℕ) {ns : List ℕ} {σ τ : Renaming} → Same ns σ τ → Same ns (lift_by k σ) (lift_by k τ)
unfolding lift_by
same_lift_by zero e = e
same_lift_by (suc k) e = same_lift (same_lift_by k e)

same_reference : {σ τ : Renaming} (r : Reference) → Same (names_of_reference r) σ τ → σ r ≡ τ r
unfolding names_of_reference
same_reference (name m) e = e.names m (Memᴰ.head refl)
same_reference (variable i) e = e.variables i

same_all : {σ τ : Renaming} (rs : List Reference) → Same (names_of_all rs) σ τ → rename_all σ rs ≡ rename_all τ rs
unfolding names_of_all rename_all
same_all [] e = refl
same_all (r ∷ rs) e = ap₂ (λ x y. x ∷ y) (same_reference r (same_left (names_of_all rs) e)) (same_all rs (same_right (names_of_reference r) e))

same_action : {σ τ : Renaming} (α : Action) → Same (names_of_action α) σ τ → rename_action σ α ≡ rename_action τ α
unfolding names_of_action rename_action
same_action (sibling_output a x ns) e =
    let f = same_left (names_of_all ns) e in
    let c = same_reference a (same_left (names_of_reference x) f) in
    let d = same_reference x (same_right (names_of_reference a) f) in
    let h = same_all ns (same_right (names_of_reference a ++ names_of_reference x) e) in
    λ i. sibling_output (c i) (d i) (h i)
same_action (parent_output x ns) e = ap₂ parent_output (same_reference x (same_left (names_of_all ns) e)) (same_all ns (same_right (names_of_reference x) e))
same_action (internal_input x k) e = ap (λ r. internal_input r k) (same_reference x e)
same_action (external_input x k) e = ap (λ r. external_input r k) (same_reference x e)
same_action (enter a x) e = ap₂ enter (same_reference a (same_left (names_of_reference x) e)) (same_reference x (same_right (names_of_reference a) e))
same_action (leave x) e = ap leave (same_reference x e)
same_action (accept x) e = ap accept (same_reference x e)
same_action (release x) e = ap release (same_reference x e)

same_rename : {σ τ : Renaming} (P : Process) → Same (names_of_process P) σ τ → rename σ P ≡ rename τ P
unfolding names_of_process rename
same_rename null e = refl
same_rename (parallel P Q) e = ap₂ parallel (same_rename P (same_left (names_of_process Q) e)) (same_rename Q (same_right (names_of_process P) e))
same_rename {σ = σ} {τ = τ} (restriction P) e = ap restriction (same_rename {σ = lift σ} {τ = lift τ} P (same_lift e))
same_rename (ambient a P) e = ap₂ ambient (same_reference a (same_left (names_of_process P) e)) (same_rename P (same_right (names_of_reference a) e))
same_rename (action α P) e = ap₂ action (same_action α (same_left (names_of_process P) e)) (same_rename P (same_lift_by (binders α) (same_right (names_of_action α) e)))
same_rename (replication α P) e = ap₂ replication (same_action α (same_left (names_of_process P) e)) (same_rename P (same_lift_by (binders α) (same_right (names_of_action α) e)))

-- What a renaming makes of the names

flat_map_append : (f : ℕ → List ℕ) (ns ms : List ℕ) → flat_map f (ns ++ ms) ≡ flat_map f ns ++ flat_map f ms
unfolding flat_map
flat_map_append f [] ms = refl
flat_map_append f (n ∷ ns) ms = ap (λ (l : List ℕ). f n ++ l) (flat_map_append f ns ms) ∙ sym (append_assoc (f n) (flat_map f ns) (flat_map f ms))

-- the parts of a list
flat_map_parts : (f : ℕ → List ℕ) (ns ms : List ℕ) {ns' ms' : List ℕ} → ns' ≡ flat_map f ns → ms' ≡ flat_map f ms → ns' ++ ms' ≡ flat_map f (ns ++ ms)
flat_map_parts f ns ms d e = ap₂ ◌++◌ d e ∙ sym (flat_map_append f ns ms)

abbrev Gives : (ℕ → List ℕ) → Renaming → Type 0
Gives f σ = (r : Reference) → names_of_reference (σ r) ≡ flat_map f (names_of_reference r)

raise_names : (r : Reference) → names_of_reference (raise r) ≡ names_of_reference r
unfolding names_of_reference raise
raise_names (name m) = refl
raise_names (variable i) = refl

module _ (f : ℕ → List ℕ) where
  gives_lift : (σ : Renaming) → Gives f σ → Gives f (lift σ)
  unfolding lift names_of_reference flat_map
  gives_lift σ g (name m) = raise_names (σ (name m)) ∙ g (name m)
  gives_lift σ g (variable zero) = refl
  gives_lift σ g (variable (suc i)) = raise_names (σ (variable i)) ∙ g (variable i)

  gives_lift_by : (k : ℕ) (σ : Renaming) → Gives f σ → Gives f (lift_by k σ)
  unfolding lift_by
  gives_lift_by zero σ g = g
  gives_lift_by (suc k) σ g = gives_lift (lift_by k σ) (gives_lift_by k σ g)

  all_names : (σ : Renaming) → Gives f σ → (rs : List Reference) → names_of_all (rename_all σ rs) ≡ flat_map f (names_of_all rs)
  unfolding names_of_all rename_all flat_map
  all_names σ g [] = refl
  all_names σ g (r ∷ rs) = flat_map_parts f (names_of_reference r) (names_of_all rs) (g r) (all_names σ g rs)

  action_names : (σ : Renaming) → Gives f σ → (α : Action) → names_of_action (rename_action σ α) ≡ flat_map f (names_of_action α)
  unfolding names_of_action rename_action
  action_names σ g (sibling_output a x ns) =
      flat_map_parts f (names_of_reference a ++ names_of_reference x) (names_of_all ns) (flat_map_parts f (names_of_reference a) (names_of_reference x) (g a) (g x)) (all_names σ g ns)
  action_names σ g (parent_output x ns) = flat_map_parts f (names_of_reference x) (names_of_all ns) (g x) (all_names σ g ns)
  action_names σ g (internal_input x k) = g x
  action_names σ g (external_input x k) = g x
  action_names σ g (enter a x) = flat_map_parts f (names_of_reference a) (names_of_reference x) (g a) (g x)
  action_names σ g (leave x) = g x
  action_names σ g (accept x) = g x
  action_names σ g (release x) = g x

  rename_names : (σ : Renaming) → Gives f σ → (P : Process) → names_of_process (rename σ P) ≡ flat_map f (names_of_process P)
  unfolding names_of_process rename flat_map
  rename_names σ g null = refl
  rename_names σ g (parallel P Q) = flat_map_parts f (names_of_process P) (names_of_process Q) (rename_names σ g P) (rename_names σ g Q)
  rename_names σ g (restriction P) = rename_names (lift σ) (gives_lift σ g) P
  rename_names σ g (ambient a P) = flat_map_parts f (names_of_reference a) (names_of_process P) (g a) (rename_names σ g P)
  rename_names σ g (action α P) =
      flat_map_parts f (names_of_action α) (names_of_process P) (action_names σ g α) (rename_names (lift_by (binders α) σ) (gives_lift_by (binders α) σ g) P)
  rename_names σ g (replication α P) =
      flat_map_parts f (names_of_action α) (names_of_process P) (action_names σ g α) (rename_names (lift_by (binders α) σ) (gives_lift_by (binders α) σ g) P)

-- Closing

-- all names but n
others : ℕ → ℕ → List ℕ
others n m = ite (ℕ_discrete m n) [] (m ∷ [])

close_gives : (n : ℕ) → Gives (others n) (close n)
unfolding close names_of_reference flat_map others
close_gives n (name m) = go (ℕ_discrete m n)
  where
    go : (d : Dec (m ≡ n)) → names_of_reference (ite d (variable 0) (name m)) ≡ ite d [] (m ∷ []) ++ []
    go (yes e) = refl
    go (no h) = refl
close_gives n (variable i) = refl

-- of the names that are left, each was there, and none is n
others_left : (n k : ℕ) (ns : List ℕ) → Among k (flat_map (others n) ns) → Among k ns × ¬ (k ≡ n)
unfolding flat_map others
others_left n k [] a = absurd (Memᴰ.not-nil a)
others_left n k (m ∷ ns) a = go (ℕ_discrete m n) (Memᴰ.append_cases (others n m) a) (others_left n k ns)
  where
    go : (d : Dec (m ≡ n)) → Among k (ite d [] (m ∷ [])) ⊎ Among k (flat_map (others n) ns) → (Among k (flat_map (others n) ns) → Among k ns × ¬ (k ≡ n)) → Among k (m ∷ ns) × ¬ (k ≡ n)
    go d (inr b) h = let t = h b in (Memᴰ.tail t.0, t.1)
    go (yes e) (inl b) h = absurd (Memᴰ.not-nil b)
    go (no c) (inl b) h = let e = Memᴰ.eq_of_singleton b in (Memᴰ.head e, λ z. c (sym e ∙ z))

closed_left : (n k : ℕ) (P : Process) → Among k (names_of_process (rename (close n) P)) → Among k (names_of_process P) × ¬ (k ≡ n)
closed_left n k P a = others_left n k (names_of_process P) (rw (rename_names (others n) (close n) (close_gives n) P) at a)

-- closing brings no name
pub closed_names : (n k : ℕ) (P : Process) → Among k (names_of_process (rename (close n) P)) → Among k (names_of_process P)
closed_names n k P a = (closed_left n k P a).0

flat_map_itself : (ns : List ℕ) → flat_map (λ m. m ∷ []) ns ≡ ns
unfolding flat_map
flat_map_itself [] = refl
flat_map_itself (n ∷ ns) = ap (λ (l : List ℕ). n ∷ l) (flat_map_itself ns)

raise_gives : Gives (λ m. m ∷ []) raise
raise_gives r = raise_names r ∙ sym (flat_map_itself (names_of_reference r))

-- A name that stands nowhere

pub close_raises : (n m : ℕ) → ¬ (m ≡ n) → close n (name m) ≡ raise (name m)
unfolding close raise
close_raises n m c = go (ℕ_discrete m n)
  where
    go : (d : Dec (m ≡ n)) → ite d (variable 0) (name m) ≡ name m
    go (yes e) = absurd (c e)
    go (no h) = refl

pub close_variable : (n i : ℕ) → close n (variable i) ≡ raise (variable i)
unfolding close raise
close_variable n i = refl

pub unused_closed : (n : ℕ) (P : Process) → ¬ Among n (names_of_process P) → rename (close n) P ≡ rename raise P
unused_closed n P d = same_rename P (record { names = λ m a. close_raises n m (λ e. d (rw e at a)); variables = close_variable n })

pub closed_unused : (n : ℕ) (P : Process) → rename (close n) P ≡ rename raise P → ¬ Among n (names_of_process P)
closed_unused n P e a =
    let kept = rename_names (λ m. m ∷ []) raise raise_gives P ∙ flat_map_itself (names_of_process P) in
    (closed_left n n P (rw (e, kept) a)).1 refl

pub unused_name_law : (n : ℕ) (P : Process) → ¬ Among n (names_of_process P) → restriction (rename (close n) P) ≅ P
unused_name_law n P d = rw (unused_closed n P d) (symmetric restriction_unused)
