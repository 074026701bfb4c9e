-- Ports that a server can't have, and the value that is told to be wrong.
use Rattle.std.proofs.Common.{◌≡◌, ◌<◌, ◌≤◌, ◌+◌, ◌↔◌, ◌∙◌, ℕ, List, codes, sym, subst, arith, inl, inr, Bool, true, false, true≢false, Option, Some, None, option_map}
use Rattle.std.proofs.lemmas.Bool.{cases_lt}
use Rattle.clap.specs.Words.{Row, Text}
use Rattle.xds_program.specs.declared.tasks.ServeTask.{ServeTask}
use Rattle.xds_program.specs.declared.wrong_values.WrongValue.{WrongValue}
use Rattle.xds_program.specs.Words.{AsksServe, Finds, IsNumber, are_apart, has_numbers, is_alone}
use Rattle.xds_program.specs.WrongValues.{Blames, BlamesIn}
use Rattle.xds_program.proofs.Values.{one_number}
use Rattle.xds_program.proofs.OneTask.{one_found}

-- what doesn't fit is above
pub above : (fits : Bool) (n : ℕ) → fits ≡ false → ((fits ≡ true) ↔ (n ≤ 65536)) → 65536 < n
above fits n none tells = elim (cases_lt 65536 n) [ inl more ↦ more | inr most ↦ absurd (true≢false (sym (tells.1 most) ∙ none)) ]

-- no task is asked for whose ports are none, or meet
module _ (rows : List Row) (replicas port rest_port : ℕ) (admin : Option ℕ) (r : IsNumber rows (codes "replicas") replicas) (p : IsNumber rows (codes "port") port)
    (q : IsNumber rows (codes "rest-port") rest_port) (a : Finds (IsNumber rows (codes "admin-port")) admin) where
  replicas_are : (x : ServeTask) → AsksServe rows x → x.replicas ≡ replicas
  replicas_are x h = one_number rows (codes "replicas") x.replicas replicas h.replicas r

  port_is : (x : ServeTask) → AsksServe rows x → x.port ≡ port
  port_is x h = one_number rows (codes "port") x.port port h.port p

  rest_port_is : (x : ServeTask) → AsksServe rows x → x.rest_port ≡ rest_port
  rest_port_is x h = one_number rows (codes "rest-port") x.rest_port rest_port h.rest_port q

  admin_is : (x : ServeTask) → AsksServe rows x → x.admin_port ≡ admin
  admin_is x h = one_found (IsNumber rows (codes "admin-port")) (one_number rows (codes "admin-port")) x.admin_port admin h.admin_port a

  pub no_port : 65536 < port + replicas → (x : ServeTask) → AsksServe rows x → ⊥
  no_port more x h = omega (arith, more, h.ports, replicas_are x h, port_is x h)

  pub no_rest_port : 65536 < rest_port + replicas → (x : ServeTask) → AsksServe rows x → ⊥
  no_rest_port more x h = omega (arith, more, h.rest_ports, replicas_are x h, rest_port_is x h)

  pub not_apart : are_apart port rest_port replicas ≡ false → (x : ServeTask) → AsksServe rows x → ⊥
  not_apart meet x h = true≢false (sym h.apart ∙ (λ i. are_apart (port_is x h i) (rest_port_is x h i) (replicas_are x h i)) ∙ meet)

  pub not_alone : is_alone admin port rest_port replicas ≡ false → (x : ServeTask) → AsksServe rows x → ⊥
  not_alone meet x h = true≢false (sym h.alone ∙ (λ i. is_alone (admin_is x h i) (port_is x h i) (rest_port_is x h i) (replicas_are x h i)) ∙ meet)

-- no task is asked for whose replicas have no numbers
pub no_numbers : (rows : List Row) (s : ServeTask) (first : Option ℕ) → AsksServe rows s → Finds (IsNumber rows (codes "first-number")) first → has_numbers first s.replicas ≡ false
    → (x : ServeTask × Option ℕ) → AsksServe rows x.0 × Finds (IsNumber rows (codes "first-number")) x.1 × (has_numbers x.1 x.0.replicas ≡ true) → ⊥
no_numbers rows s first asks found lack x h =
    let replicas = one_number rows (codes "replicas") x.0.replicas s.replicas h.0.replicas asks.replicas in
    let number = one_found (IsNumber rows (codes "first-number")) (one_number rows (codes "first-number")) x.1 first h.1 found in
    true≢false (sym h.2 ∙ (λ i. has_numbers (number i) (replicas i)) ∙ lack)

-- a value of the command that was named
pub blames_in : (named : Option (Text × List Row)) (rows : List Row) (wrong : WrongValue) → option_map (λ p. p.1) named ≡ Some rows → Blames rows wrong → BlamesIn named wrong
blames_in None rows wrong is blames = absurd cc
blames_in (Some p) rows wrong is blames =
    let same : p.1 ≡ rows = cc in
    subst (λ (rs : List Row). Blames rs wrong) (sym same) blames
