-- Worked logs, newest event first: the definitions accept what they should, and nothing else.
use Rattle.std.proofs.Common.{◌≡◌, ℕ, ◌+◌, ◌-◌, ◌*◌, List, [], ◌∷◌, Some, refl, arith}
use Rattle.event_log.specs.declared.{ids.{CpuId.CpuId, LockId.{LockId, TheVariants.{Pending, Buffer}}, TheConstants.CPUS}, events.Event.Event}
use Rattle.event_log.specs.declared.{events.Event.TheVariants.{Draw, Look, Free}, grants.GrantEvent.{GrantEvent, TheVariants.{Take, Peek, Give}}}
use Rattle.event_log.{specs.{WordsLog.IsLegalWords, Grants.{IsLegalGrants, grant_word}, Sections.{sections_of, block_after}}, proofs.Same.cpu_numbered}

abbrev a : CpuId
a = cpu_numbered 0

abbrev b : CpuId
b = cpu_numbered (CPUS - 1)

abbrev lock : LockId
lock = Buffer (record { 0 = 3 })

abbrev other : LockId
other = Pending a

-- two CPUs at one lock: the second one waits until the first one has freed it
abbrev two_sections : List (Event ℕ)
two_sections = Free b lock 8 ∷ Look b lock 1 1 ∷ Free a lock 9 ∷ Look b lock 1 0 ∷ Look a lock 0 0 ∷ Draw b lock 1 ∷ Draw a lock 0 ∷ []

two_sections_are_legal : IsLegalWords two_sections
two_sections_are_legal = ((1, refl), ((refl, refl), ((0, refl), ((refl, refl), ((refl, refl), ((omega arith, refl, refl), ((omega arith, refl, refl), tt)))))))

-- the first CPU draws again while the second one is inside, and enters after it
third_section_is_legal : IsLegalWords {M = ℕ} (Look a lock 2 2 ∷ Free b lock 8 ∷ Draw a lock 2 ∷ Look b lock 1 1 ∷ Free a lock 9 ∷ Look b lock 1 0
    ∷ Look a lock 0 0 ∷ Draw b lock 1 ∷ Draw a lock 0 ∷ [])
third_section_is_legal = ((refl, refl), ((1, refl), ((omega arith, refl, refl), two_sections_are_legal.1)))

-- each section's edit appends its digit
two_sections_edit_in_turn : block_after (λ digit block. 10 * block + digit) (λ l. Some 1) lock (sections_of (λ mark. mark) two_sections) ≡ Some 198
two_sections_edit_in_turn = refl

wrong_ticket : IsLegalWords {M = ℕ} (Draw a lock 1 ∷ []) → ⊥
wrong_ticket legal = omega (arith, legal.0.2)

no_such_cpu : IsLegalWords {M = ℕ} (Draw (cpu_numbered CPUS) lock 0 ∷ []) → ⊥
no_such_cpu legal = omega (arith, legal.0.0)

draw_while_waiting : IsLegalWords {M = ℕ} (Draw a other 0 ∷ Draw a lock 0 ∷ []) → ⊥
draw_while_waiting legal = cc (legal.0.1)

look_that_should_hit : IsLegalWords {M = ℕ} (Look a lock 0 1 ∷ Draw a lock 0 ∷ []) → ⊥
look_that_should_hit legal = omega (arith, legal.0.1)

look_elsewhere : IsLegalWords {M = ℕ} (Look a other 0 0 ∷ Draw a lock 0 ∷ []) → ⊥
look_elsewhere legal = cc (legal.0.0)

look_after_the_hit : IsLegalWords {M = ℕ} (Look a lock 0 0 ∷ Look a lock 0 0 ∷ Draw a lock 0 ∷ []) → ⊥
look_after_the_hit legal = cc (legal.0.0)

hit_before_its_turn : IsLegalWords {M = ℕ} (Look b lock 1 1 ∷ Look a lock 0 0 ∷ Draw b lock 1 ∷ Draw a lock 0 ∷ []) → ⊥
hit_before_its_turn legal = omega (arith, legal.0.1)

free_by_another : IsLegalWords {M = ℕ} (Free b lock 9 ∷ Look a lock 0 0 ∷ Draw a lock 0 ∷ []) → ⊥
free_by_another legal = cc (legal.0.1)

free_twice : IsLegalWords {M = ℕ} (Free a lock 9 ∷ Free a lock 9 ∷ Look a lock 0 0 ∷ Draw a lock 0 ∷ []) → ⊥
free_twice legal = cc (legal.0.1)

-- the same two sections at a lock with grant words
abbrev two_grants : List (GrantEvent ℕ)
two_grants = Give b lock 8 ∷ Peek b lock 1 2 ∷ Give a lock 9 ∷ Peek b lock 1 0 ∷ Peek a lock 0 1 ∷ Take b lock 1 ∷ Take a lock 0 ∷ []

two_grants_are_legal : IsLegalGrants two_grants
two_grants_are_legal = ((1, refl), ((refl, refl), ((0, refl), ((refl, refl), ((refl, refl), ((omega arith, refl, refl), ((omega arith, refl, refl), tt)))))))

-- after two sections words 0, 1 and 2 hold 1, 2 and 3, and the next one 0
words_after_two : (grant_word lock 0 two_grants ≡ 1) × (grant_word lock 1 two_grants ≡ 2) × (grant_word lock 2 two_grants ≡ 3)
    × (grant_word lock 3 two_grants ≡ 0)
words_after_two = (refl, refl, refl, refl)

peek_before_its_turn : IsLegalGrants {M = ℕ} (Peek b lock 1 2 ∷ Peek a lock 0 1 ∷ Take b lock 1 ∷ Take a lock 0 ∷ []) → ⊥
peek_before_its_turn legal = omega (arith, legal.0.1)

give_while_waiting : IsLegalGrants {M = ℕ} (Give a lock 9 ∷ Take a lock 0 ∷ []) → ⊥
give_while_waiting legal = cc (legal.0.1)

-- a log without an event, a CPU inside, two locks, each of which counts separately
abbrev inside : List (Event ℕ)
inside = Look a lock 0 0 ∷ Draw a lock 0 ∷ []

more_are_legal : IsLegalWords {M = ℕ} [] × IsLegalWords inside × IsLegalWords {M = ℕ} (Draw b lock 0 ∷ Draw a other 0 ∷ [])
more_are_legal = (tt, ((refl, refl), ((omega arith, refl, refl), tt)), ((omega arith, refl, refl), ((omega arith, refl, refl), tt)))

look_by_another : IsLegalWords {M = ℕ} (Look b lock 0 0 ∷ Draw a lock 0 ∷ []) → ⊥
look_by_another legal = cc (legal.0.0)

free_while_waiting : IsLegalWords {M = ℕ} (Free a lock 9 ∷ Draw a lock 0 ∷ []) → ⊥
free_while_waiting legal = cc (legal.0.1)
