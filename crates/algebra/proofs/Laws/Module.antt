-- Polynomials that act on an abelian group: scale c u is a scalar times u, X u the variable times u.
-- The only law of a product of scalars that is needed is that two of them commute. No length of a list is needed.
use Rattle.std.specs.Prelude.{ℕ, zero, suc, List, [], ◌∷◌, ◌≡◌}
use Rattle.std.proofs.Math.Path.{refl}
use Rattle.std.proofs.Common.{sym, ◌∙◌, ap}

-- a module over C with an endomorphism
pub record Ops (C G : Type 0) : Type 0 where
  pub add : G → G → G
  pub none : G
  pub scale : C → G → G
  pub X : G → G

pub record Laws {C G : Type 0} (O : Ops C G) : Type 0 where
  pub add_assoc : (u v w : G) → O.add (O.add u v) w ≡ O.add u (O.add v w)
  pub add_comm : (u v : G) → O.add u v ≡ O.add v u
  pub add_none : (u : G) → O.add u O.none ≡ u
  pub scale_add : (c : C) (u v : G) → O.scale c (O.add u v) ≡ O.add (O.scale c u) (O.scale c v)
  pub scale_none : (c : C) → O.scale c O.none ≡ O.none
  pub scale_swap : (c d : C) (u : G) → O.scale c (O.scale d u) ≡ O.scale d (O.scale c u)
  pub X_add : (u v : G) → O.X (O.add u v) ≡ O.add (O.X u) (O.X v)
  pub X_none : O.X O.none ≡ O.none
  pub X_scale : (c : C) (u : G) → O.X (O.scale c u) ≡ O.scale c (O.X u)

module _ {C G : Type 0} (O : Ops C G) where
  -- the polynomial a, the coefficient of X^0 first, times u
  unfoldable pub act : List C → G → G
  act [] u = O.none
  act (a ∷ as') u = O.add (O.scale a u) (O.X (act as' u))

  -- the sum of a_i times u_i for i < l
  unfoldable pub acts : ℕ → (ℕ → List C) → (ℕ → G) → G
  acts zero a u = O.none
  acts (suc l) a u = O.add (acts l a u) (act (a l) (u l))

  pub act_nil : (u : G) → act [] u ≡ O.none
  unfolding act
  act_nil u = refl

  pub act_cons : (a : C) (as' : List C) (u : G) → act (a ∷ as') u ≡ O.add (O.scale a u) (O.X (act as' u))
  unfolding act
  act_cons a as' u = refl

  pub acts_zero : (a : ℕ → List C) (u : ℕ → G) → acts zero a u ≡ O.none
  unfolding acts
  acts_zero a u = refl

  pub acts_suc : (l : ℕ) (a : ℕ → List C) (u : ℕ → G) → acts (suc l) a u ≡ O.add (acts l a u) (act (a l) (u l))
  unfolding acts
  acts_suc l a u = refl

module _ {C G : Type 0} {O : Ops C G} (L : Laws O) where
  left_comm : (u v w : G) → O.add u (O.add v w) ≡ O.add v (O.add u w)
  left_comm u v w = sym (L.add_assoc u v w) ∙ ap (λ z. O.add z w) (L.add_comm u v) ∙ L.add_assoc v u w

  act_none : (a : List C) → act O a O.none ≡ O.none
  act_none [] = act_nil O _
  act_none (a ∷ as') = simp (act_cons, act_none as', L.scale_none, L.X_none, L.add_none)

  act_add : (a : List C) (u v : G) → act O a (O.add u v) ≡ O.add (act O a u) (act O a v)
  act_add [] u v = simp (act_nil, L.add_none)
  act_add (a ∷ as') u v = simp (act_cons, act_add as' u v, L.scale_add, L.X_add, L.add_assoc, left_comm)

  act_scale : (a : List C) (c : C) (u : G) → act O a (O.scale c u) ≡ O.scale c (act O a u)
  act_scale [] c u = simp (act_nil, L.scale_none)
  act_scale (a ∷ as') c u = simp (act_cons, act_scale as' c u, L.scale_add, L.X_scale, L.scale_swap a c u)

  act_X : (a : List C) (u : G) → act O a (O.X u) ≡ O.X (act O a u)
  act_X [] u = simp (act_nil, L.X_none)
  act_X (a ∷ as') u = simp (act_cons, act_X as' u, L.X_add, L.X_scale)

  -- two products with polynomials commute
  act_swap : (a b : List C) (u : G) → act O a (act O b u) ≡ act O b (act O a u)
  act_swap [] b u = simp (act_nil, act_none)
  act_swap (a ∷ as') b u = simp (act_cons, act_swap as' b u, act_add b, act_scale b, act_X b)

  acts_none : (l : ℕ) (a : ℕ → List C) → acts O l a (λ i. O.none) ≡ O.none
  acts_none zero a = simp acts_zero
  acts_none (suc l) a = simp (acts_suc, acts_none l a, act_none, L.add_none)

  acts_add : (l : ℕ) (a : ℕ → List C) (u v : ℕ → G) → acts O l a (λ i. O.add (u i) (v i)) ≡ O.add (acts O l a u) (acts O l a v)
  acts_add zero a u v = simp (acts_zero, L.add_none)
  acts_add (suc l) a u v = simp (acts_suc, acts_add l a u v, act_add (a l), L.add_assoc, left_comm)

  acts_act : (l : ℕ) (a : ℕ → List C) (b : List C) (u : ℕ → G) → acts O l a (λ i. act O b (u i)) ≡ act O b (acts O l a u)
  acts_act zero a b u = simp (acts_zero, act_none)
  acts_act (suc l) a b u = simp (acts_suc, acts_act l a b u, act_add b, act_swap (a l) b)

  -- ⟨Aᵀ s, t⟩ = ⟨A t, s⟩, for a matrix of m rows and l columns
  pub adjoint :
      (l m : ℕ) (s t : ℕ → List C) (A : ℕ → ℕ → G) →
      acts O l t (λ i. acts O m s (λ j. A j i)) ≡ acts O m s (λ j. acts O l t (λ i. A j i))
  adjoint zero m s t A = simp (acts_zero, acts_none)
  adjoint (suc l) m s t A = simp (acts_suc, adjoint l m s t A, acts_add m s, acts_act m s)
