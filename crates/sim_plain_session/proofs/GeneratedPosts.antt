-- Generated sessions, as they come out of an independent program: three clients, delay 1 and 4 turns, where the health of a post is bent.
use Rattle.sim_base.specs.declared.step.Event.TheVariants as event
use Rattle.sim_base.specs.declared.step.Step.TheVariants as step
use Rattle.sim_plain_session.proofs.Common.{Status, Step, Stop, u16_bytes, u32_bytes, u64_bytes, up_to, Waiting, walker, ℕ, ◌∷◌, ◌≡◌}
use Rattle.sim_plain_session.proofs.Common.{[], at_metre, block_words, compress, Delete, digest, digest_bytes, first, hash_after, i32_bytes, In, length, List}
use Rattle.sim_plain_session.proofs.Common.{map, md5, mid, Out, pos, post, quick, refl, Resign, rounds, Session, session, session_events, Setup, setup_of}

-- What a session leaves behind, in numbers.

-- what clients are to the server, the released turns, how many commands are kept by turn, and how many messages lie in the pipes by client
pub record Left : Type 0 where
  pub statuses : List Status
  pub released : ℕ
  pub kept : List ℕ
  pub ups : List ℕ
  pub downs : List ℕ

abbrev pub left : Setup → Session → Left
left setup s =
    record {
      statuses = map s.server.status (up_to setup.players);
      released = s.server.released;
      kept = map (λ t. length (s.server.kept t)) (up_to setup.turns);
      ups = map (λ c. length (s.ups c)) (up_to setup.players);
      downs = map (λ c. length (s.downs c)) (up_to setup.players);
    }

abbrev match : Setup
match =
    record (setup_of
    (26 ∷ 25 ∷ 76 ∷ 23 ∷ 190 ∷ 203 ∷ 241 ∷ 127 ∷ 252 ∷ 166 ∷ 252 ∷ 145 ∷ 140 ∷ 244 ∷ 183 ∷ 237 ∷ [])
    16 (0 ∷ 0 ∷ 0 ∷ 0 ∷ []) 3 0 (walker ∷ post ∷ [])
    (first 0 1 (mid 2 2) ∷ first 0 2 (mid 2 8) ∷ first 1 3 (at_metre 10) ∷ [])) { delay = 1; turns = 4 }

-- ---- the digests that are printed

abbrev digest_0 : List ℕ
digest_0 = 210 ∷ 194 ∷ 248 ∷ 212 ∷ 166 ∷ 133 ∷ 230 ∷ 96 ∷ 137 ∷ 175 ∷ 170 ∷ 130 ∷ 112 ∷ 255 ∷ 240 ∷ 150 ∷ []

abbrev digest_1 : List ℕ
digest_1 = 216 ∷ 12 ∷ 24 ∷ 17 ∷ 93 ∷ 235 ∷ 234 ∷ 96 ∷ 22 ∷ 200 ∷ 247 ∷ 226 ∷ 157 ∷ 27 ∷ 127 ∷ 53 ∷ []

abbrev digest_2 : List ℕ
digest_2 = 251 ∷ 99 ∷ 16 ∷ 187 ∷ 223 ∷ 171 ∷ 45 ∷ 149 ∷ 1 ∷ 220 ∷ 26 ∷ 107 ∷ 50 ∷ 53 ∷ 55 ∷ 0 ∷ []

abbrev digest_3 : List ℕ
digest_3 = 128 ∷ 156 ∷ 171 ∷ 78 ∷ 1 ∷ 150 ∷ 83 ∷ 198 ∷ 94 ∷ 240 ∷ 159 ∷ 36 ∷ 128 ∷ 211 ∷ 210 ∷ 188 ∷ []

abbrev digest_4 : List ℕ
digest_4 = 78 ∷ 89 ∷ 254 ∷ 40 ∷ 45 ∷ 208 ∷ 123 ∷ 210 ∷ 12 ∷ 227 ∷ 224 ∷ 54 ∷ 118 ∷ 131 ∷ 197 ∷ 143 ∷ []

abbrev digest_5 : List ℕ
digest_5 = 197 ∷ 232 ∷ 210 ∷ 8 ∷ 59 ∷ 33 ∷ 195 ∷ 59 ∷ 130 ∷ 155 ∷ 246 ∷ 199 ∷ 166 ∷ 190 ∷ 47 ∷ 249 ∷ []

abbrev digest_6 : List ℕ
digest_6 = 250 ∷ 94 ∷ 164 ∷ 95 ∷ 240 ∷ 221 ∷ 16 ∷ 100 ∷ 70 ∷ 129 ∷ 157 ∷ 163 ∷ 216 ∷ 226 ∷ 249 ∷ 54 ∷ []

abbrev digest_7 : List ℕ
digest_7 = 184 ∷ 11 ∷ 134 ∷ 55 ∷ 118 ∷ 186 ∷ 138 ∷ 89 ∷ 198 ∷ 62 ∷ 192 ∷ 82 ∷ 135 ∷ 104 ∷ 15 ∷ 42 ∷ []

abbrev digest_8 : List ℕ
digest_8 = 81 ∷ 0 ∷ 57 ∷ 139 ∷ 71 ∷ 116 ∷ 114 ∷ 26 ∷ 138 ∷ 120 ∷ 152 ∷ 30 ∷ 148 ∷ 175 ∷ 179 ∷ 67 ∷ []

abbrev digest_9 : List ℕ
digest_9 = 137 ∷ 123 ∷ 234 ∷ 237 ∷ 8 ∷ 61 ∷ 137 ∷ 39 ∷ 130 ∷ 163 ∷ 122 ∷ 53 ∷ 211 ∷ 248 ∷ 178 ∷ 13 ∷ []

abbrev digest_10 : List ℕ
digest_10 = 27 ∷ 133 ∷ 223 ∷ 67 ∷ 185 ∷ 93 ∷ 145 ∷ 105 ∷ 95 ∷ 230 ∷ 1 ∷ 0 ∷ 89 ∷ 135 ∷ 197 ∷ 21 ∷ []

abbrev digest_11 : List ℕ
digest_11 = 94 ∷ 62 ∷ 48 ∷ 146 ∷ 192 ∷ 107 ∷ 31 ∷ 120 ∷ 157 ∷ 97 ∷ 180 ∷ 95 ∷ 132 ∷ 93 ∷ 192 ∷ 132 ∷ []

abbrev digest_12 : List ℕ
digest_12 = 80 ∷ 65 ∷ 196 ∷ 54 ∷ 53 ∷ 61 ∷ 43 ∷ 132 ∷ 243 ∷ 34 ∷ 95 ∷ 23 ∷ 37 ∷ 26 ∷ 226 ∷ 215 ∷ []

abbrev digest_13 : List ℕ
digest_13 = 180 ∷ 121 ∷ 124 ∷ 35 ∷ 164 ∷ 120 ∷ 105 ∷ 235 ∷ 253 ∷ 80 ∷ 47 ∷ 169 ∷ 128 ∷ 17 ∷ 108 ∷ 200 ∷ []

abbrev digest_14 : List ℕ
digest_14 = 241 ∷ 75 ∷ 103 ∷ 154 ∷ 119 ∷ 245 ∷ 156 ∷ 26 ∷ 170 ∷ 246 ∷ 97 ∷ 246 ∷ 135 ∷ 40 ∷ 66 ∷ 128 ∷ []

-- ---- 15 steps

abbrev steps_0 : List Step
steps_0 =
    step.Order 2 (Stop (2 ∷ 3 ∷ [])) ∷ step.Bend 1 4 (pos 65536) ∷ step.Down 3 ∷ step.Play 2 ∷ step.Play 3 ∷ step.Order 3 (Stop (2 ∷ 3 ∷ [])) ∷
    step.Up 2 ∷ step.Down 2 ∷ step.Order 3 (Delete (2 ∷ 4 ∷ [])) ∷ step.Bend 1 4 (pos 65536) ∷ step.Down 1 ∷ step.Down 3 ∷ step.Play 1 ∷ step.Up 1 ∷
    step.Up 2 ∷ []

events_0 : session_events match 3 steps_0
    ≡ event.Start 1 digest_0 ∷ event.Start 2 digest_0 ∷ event.Start 3 digest_0 ∷ event.Order 2 2 ∷ event.Bend 1 0 digest_1 ∷ event.Play 2 1 digest_2 ∷
    event.Play 3 1 digest_2 ∷ event.Order 3 3 ∷ event.Order 3 3 ∷ event.Bend 1 0 digest_1 ∷ event.Play 1 1 digest_3 ∷ []
unfolding digest quick u16_bytes u32_bytes u64_bytes i32_bytes block_words rounds compress hash_after digest_bytes md5
events_0 = refl

left_0 : left match (session match 3 steps_0)
    ≡ record { statuses = In 1 ∷ In 1 ∷ In 1 ∷ []; released = 1; kept = 0 ∷ 1 ∷ 0 ∷ 0 ∷ []; ups = 1 ∷ 1 ∷ 4 ∷ []; downs = 0 ∷ 0 ∷ 0 ∷ [] }
unfolding digest quick u16_bytes u32_bytes u64_bytes i32_bytes block_words rounds compress hash_after digest_bytes md5
left_0 = refl

-- ---- 22 steps

abbrev steps_1 : List Step
steps_1 =
    step.Play 1 ∷ step.Up 1 ∷ step.Play 2 ∷ step.Up 1 ∷ step.Join 3 ∷ step.Cut 2 ∷ step.Up 3 ∷ step.Down 1 ∷ step.Bend 1 4 (pos 131072) ∷
    step.Down 3 ∷ step.Down 1 ∷ step.Play 1 ∷ step.Order 3 Resign ∷ step.Down 3 ∷ step.Play 3 ∷ step.Order 1 (Stop (2 ∷ 3 ∷ [])) ∷ step.Up 1 ∷
    step.Order 1 (Delete (2 ∷ 4 ∷ [])) ∷ step.Order 1 (Stop (2 ∷ [])) ∷ step.Down 3 ∷ step.Bend 1 4 (pos 131072) ∷ step.Order 3 (Stop (2 ∷ [])) ∷ []

events_1 : session_events match 2 steps_1
    ≡ event.Start 1 digest_0 ∷ event.Start 2 digest_0 ∷ event.Play 1 1 digest_2 ∷ event.Play 2 1 digest_2 ∷ event.Join 3 ∷ event.Cut 2 ∷
    event.Bend 1 1 digest_4 ∷ event.Play 1 2 digest_5 ∷ event.Order 1 4 ∷ event.Order 1 4 ∷ event.Order 1 4 ∷ event.Load 3 1 digest_4 ∷
    event.Bend 1 2 digest_5 ∷ event.Order 3 3 ∷ []
unfolding digest quick u16_bytes u32_bytes u64_bytes i32_bytes block_words rounds compress hash_after digest_bytes md5
events_1 = refl

left_1 : left match (session match 2 steps_1)
    ≡ record { statuses = In 2 ∷ Out ∷ In 2 ∷ []; released = 2; kept = 0 ∷ 0 ∷ 0 ∷ 0 ∷ []; ups = 5 ∷ 0 ∷ 1 ∷ []; downs = 0 ∷ 0 ∷ 1 ∷ [] }
unfolding digest quick u16_bytes u32_bytes u64_bytes i32_bytes block_words rounds compress hash_after digest_bytes md5
left_1 = refl

-- ---- 29 steps

abbrev steps_2 : List Step
steps_2 =
    step.Play 1 ∷ step.Join 3 ∷ step.Up 3 ∷ step.Down 1 ∷ step.Up 1 ∷ step.Play 2 ∷ step.Up 2 ∷ step.Up 1 ∷ step.Up 1 ∷ step.Down 3 ∷ step.Up 2 ∷
    step.Order 2 Resign ∷ step.Order 2 (Stop (2 ∷ 3 ∷ [])) ∷ step.Cut 1 ∷ step.Down 2 ∷ step.Bend 3 4 (pos 131072) ∷ step.Join 1 ∷ step.Up 1 ∷
    step.Play 2 ∷ step.Play 2 ∷ step.Cut 2 ∷ step.Down 2 ∷ step.Join 2 ∷ step.Order 1 (Stop (2 ∷ [])) ∷ step.Up 2 ∷ step.Down 3 ∷
    step.Order 3 (Stop (2 ∷ 3 ∷ [])) ∷ step.Up 3 ∷ step.Down 3 ∷ []

events_2 : session_events match 2 steps_2
    ≡ event.Start 1 digest_0 ∷ event.Start 2 digest_0 ∷ event.Play 1 1 digest_2 ∷ event.Join 3 ∷ event.Play 2 1 digest_2 ∷ event.Load 3 1 digest_2 ∷
    event.Order 2 3 ∷ event.Order 2 3 ∷ event.Cut 1 ∷ event.Bend 3 1 digest_4 ∷ event.Join 1 ∷ event.Play 2 2 digest_6 ∷ event.Cut 2 ∷ event.Join 2 ∷
    event.Order 3 3 ∷ []
unfolding digest quick u16_bytes u32_bytes u64_bytes i32_bytes block_words rounds compress hash_after digest_bytes md5
events_2 = refl

left_2 : left match (session match 2 steps_2)
    ≡ record { statuses = Waiting 3 ∷ Waiting 3 ∷ In 2 ∷ []; released = 2; kept = 0 ∷ 0 ∷ 1 ∷ 0 ∷ []; ups = 0 ∷ 0 ∷ 0 ∷ []; downs = 0 ∷ 0 ∷ 3 ∷ [] }
unfolding digest quick u16_bytes u32_bytes u64_bytes i32_bytes block_words rounds compress hash_after digest_bytes md5
left_2 = refl

-- ---- 37 steps

abbrev steps_3 : List Step
steps_3 =
    step.Join 3 ∷ step.Play 1 ∷ step.Order 1 (Delete (4 ∷ [])) ∷ step.Up 1 ∷ step.Up 1 ∷ step.Up 1 ∷ step.Bend 1 4 (pos 131072) ∷ step.Up 3 ∷
    step.Up 3 ∷ step.Down 1 ∷ step.Down 1 ∷ step.Play 1 ∷ step.Up 1 ∷ step.Join 2 ∷ step.Down 1 ∷ step.Up 2 ∷ step.Up 1 ∷ step.Down 1 ∷ step.Up 1 ∷
    step.Up 1 ∷ step.Down 3 ∷ step.Order 1 (Delete (4 ∷ [])) ∷ step.Down 2 ∷ step.Down 1 ∷ step.Up 1 ∷ step.Order 2 (Stop (2 ∷ [])) ∷
    step.Bend 3 4 (pos 131072) ∷ step.Play 1 ∷ step.Up 1 ∷ step.Up 1 ∷ step.Down 3 ∷ step.Down 1 ∷ step.Cut 2 ∷ step.Order 3 (Delete (2 ∷ 4 ∷ [])) ∷
    step.Down 3 ∷ step.Down 3 ∷ step.Play 3 ∷ []

events_3 : session_events match 1 steps_3
    ≡ event.Start 1 digest_0 ∷ event.Join 3 ∷ event.Play 1 1 digest_2 ∷ event.Order 1 3 ∷ event.Bend 1 1 digest_4 ∷ event.Play 1 2 digest_5 ∷
    event.Join 2 ∷ event.Load 3 2 digest_5 ∷ event.Order 1 4 ∷ event.Load 2 2 digest_5 ∷ event.Order 2 4 ∷ event.Bend 3 2 digest_5 ∷
    event.Play 1 3 digest_7 ∷ event.Cut 2 ∷ event.Order 3 4 ∷ event.Play 3 3 digest_7 ∷ []
unfolding digest quick u16_bytes u32_bytes u64_bytes i32_bytes block_words rounds compress hash_after digest_bytes md5
events_3 = refl

left_3 : left match (session match 1 steps_3)
    ≡ record { statuses = In 4 ∷ Out ∷ In 3 ∷ []; released = 3; kept = 0 ∷ 0 ∷ 1 ∷ 1 ∷ []; ups = 0 ∷ 0 ∷ 3 ∷ []; downs = 0 ∷ 0 ∷ 0 ∷ [] }
unfolding digest quick u16_bytes u32_bytes u64_bytes i32_bytes block_words rounds compress hash_after digest_bytes md5
left_3 = refl

-- ---- 44 steps

abbrev steps_4 : List Step
steps_4 =
    step.Play 2 ∷ step.Order 3 (Delete (2 ∷ 4 ∷ [])) ∷ step.Bend 1 4 (pos 65536) ∷ step.Up 2 ∷ step.Up 2 ∷ step.Join 3 ∷ step.Up 3 ∷ step.Down 1 ∷
    step.Cut 2 ∷ step.Play 1 ∷ step.Up 1 ∷ step.Up 1 ∷ step.Up 1 ∷ step.Order 1 (Delete (2 ∷ 4 ∷ [])) ∷ step.Down 1 ∷ step.Up 1 ∷ step.Down 3 ∷
    step.Down 3 ∷ step.Join 2 ∷ step.Down 3 ∷ step.Up 2 ∷ step.Order 2 Resign ∷ step.Up 3 ∷ step.Down 1 ∷ step.Order 1 (Delete (4 ∷ [])) ∷
    step.Down 1 ∷ step.Up 1 ∷ step.Up 1 ∷ step.Order 1 (Delete (2 ∷ 4 ∷ [])) ∷ step.Down 2 ∷ step.Order 3 Resign ∷ step.Play 3 ∷ step.Up 1 ∷
    step.Down 1 ∷ step.Play 1 ∷ step.Cut 2 ∷ step.Join 2 ∷ step.Up 3 ∷ step.Down 3 ∷ step.Down 3 ∷ step.Order 1 Resign ∷
    step.Order 1 (Stop (2 ∷ [])) ∷ step.Up 3 ∷ step.Down 1 ∷ []

events_4 : session_events match 2 steps_4
    ≡ event.Start 1 digest_0 ∷ event.Start 2 digest_0 ∷ event.Play 2 1 digest_2 ∷ event.Bend 1 0 digest_1 ∷ event.Join 3 ∷ event.Cut 2 ∷
    event.Play 1 1 digest_3 ∷ event.Order 1 3 ∷ event.Load 3 0 digest_1 ∷ event.Join 2 ∷ event.Order 1 3 ∷ event.Order 1 3 ∷ event.Load 2 1 digest_3 ∷
    event.Order 3 2 ∷ event.Play 3 1 digest_3 ∷ event.Cut 2 ∷ event.Join 2 ∷ event.Order 1 3 ∷ event.Order 1 3 ∷ []
unfolding digest quick u16_bytes u32_bytes u64_bytes i32_bytes block_words rounds compress hash_after digest_bytes md5
events_4 = refl

left_4 : left match (session match 2 steps_4)
    ≡ record { statuses = In 2 ∷ Out ∷ In 1 ∷ []; released = 1; kept = 0 ∷ 1 ∷ 3 ∷ 0 ∷ []; ups = 2 ∷ 1 ∷ 1 ∷ []; downs = 1 ∷ 0 ∷ 1 ∷ [] }
unfolding digest quick u16_bytes u32_bytes u64_bytes i32_bytes block_words rounds compress hash_after digest_bytes md5
left_4 = refl

-- ---- 51 steps

abbrev steps_5 : List Step
steps_5 =
    step.Play 1 ∷ step.Join 2 ∷ step.Up 1 ∷ step.Join 3 ∷ step.Up 3 ∷ step.Up 1 ∷ step.Down 1 ∷ step.Down 1 ∷ step.Up 1 ∷ step.Play 1 ∷
    step.Bend 1 4 (pos 131072) ∷ step.Down 3 ∷ step.Bend 3 4 (pos 65536) ∷ step.Up 2 ∷ step.Play 3 ∷ step.Order 1 (Stop (2 ∷ [])) ∷ step.Down 3 ∷
    step.Play 3 ∷ step.Up 1 ∷ step.Up 3 ∷ step.Order 1 (Stop (2 ∷ 3 ∷ [])) ∷ step.Up 1 ∷ step.Up 1 ∷ step.Up 2 ∷ step.Down 3 ∷ step.Up 1 ∷
    step.Order 1 (Delete (2 ∷ 4 ∷ [])) ∷ step.Down 1 ∷ step.Order 3 (Stop (2 ∷ 3 ∷ [])) ∷ step.Cut 3 ∷ step.Down 1 ∷ step.Order 1 (Stop (2 ∷ [])) ∷
    step.Up 1 ∷ step.Join 3 ∷ step.Up 3 ∷ step.Up 1 ∷ step.Up 1 ∷ step.Down 2 ∷ step.Down 1 ∷ step.Down 1 ∷ step.Down 2 ∷ step.Down 2 ∷ step.Down 2 ∷
    step.Order 1 (Delete (4 ∷ [])) ∷ step.Up 1 ∷ step.Bend 2 4 (pos 131072) ∷ step.Down 1 ∷ step.Down 1 ∷ step.Order 2 (Delete (2 ∷ 4 ∷ [])) ∷
    step.Up 1 ∷ step.Down 1 ∷ []

events_5 : session_events match 1 steps_5
    ≡ event.Start 1 digest_0 ∷ event.Play 1 1 digest_2 ∷ event.Join 2 ∷ event.Join 3 ∷ event.Play 1 2 digest_6 ∷ event.Bend 1 2 digest_5 ∷
    event.Load 3 1 digest_2 ∷ event.Bend 3 1 digest_3 ∷ event.Order 1 4 ∷ event.Play 3 2 digest_8 ∷ event.Order 1 4 ∷ event.Order 1 4 ∷
    event.Order 3 4 ∷ event.Cut 3 ∷ event.Order 1 4 ∷ event.Join 3 ∷ event.Load 2 2 digest_5 ∷ event.Order 1 4 ∷ event.Bend 2 2 digest_5 ∷
    event.Order 2 4 ∷ []
unfolding digest quick u16_bytes u32_bytes u64_bytes i32_bytes block_words rounds compress hash_after digest_bytes md5
events_5 = refl

left_5 : left match (session match 1 steps_5)
    ≡ record { statuses = In 3 ∷ In 3 ∷ In 3 ∷ []; released = 3; kept = 0 ∷ 0 ∷ 0 ∷ 5 ∷ []; ups = 0 ∷ 1 ∷ 0 ∷ []; downs = 1 ∷ 3 ∷ 7 ∷ [] }
unfolding digest quick u16_bytes u32_bytes u64_bytes i32_bytes block_words rounds compress hash_after digest_bytes md5
left_5 = refl

-- ---- 58 steps

abbrev steps_6 : List Step
steps_6 =
    step.Down 2 ∷ step.Join 3 ∷ step.Play 1 ∷ step.Up 1 ∷ step.Up 3 ∷ step.Down 1 ∷ step.Up 1 ∷ step.Up 1 ∷ step.Down 3 ∷ step.Join 2 ∷
    step.Order 1 Resign ∷ step.Up 1 ∷ step.Up 2 ∷ step.Down 1 ∷ step.Down 1 ∷ step.Play 1 ∷ step.Up 1 ∷ step.Bend 1 4 (pos 131072) ∷
    step.Bend 3 4 (pos 131072) ∷ step.Cut 3 ∷ step.Down 1 ∷ step.Up 1 ∷ step.Join 3 ∷ step.Down 1 ∷ step.Up 1 ∷ step.Play 1 ∷ step.Down 2 ∷
    step.Up 3 ∷ step.Bend 1 4 (pos 131072) ∷ step.Down 2 ∷ step.Down 2 ∷ step.Down 1 ∷ step.Play 2 ∷ step.Up 1 ∷ step.Up 2 ∷ step.Up 1 ∷ step.Up 1 ∷
    step.Up 2 ∷ step.Down 2 ∷ step.Down 1 ∷ step.Play 3 ∷ step.Down 3 ∷ step.Play 1 ∷ step.Up 1 ∷ step.Down 3 ∷ step.Play 2 ∷ step.Up 2 ∷ step.Up 1 ∷
    step.Down 3 ∷ step.Play 3 ∷ step.Up 3 ∷ step.Up 1 ∷ step.Play 1 ∷ step.Bend 1 4 (pos 65536) ∷ step.Bend 1 4 (pos 131072) ∷ step.Cut 3 ∷
    step.Down 3 ∷ step.Join 3 ∷ []

events_6 : session_events match 1 steps_6
    ≡ event.Start 1 digest_0 ∷ event.Join 3 ∷ event.Play 1 1 digest_2 ∷ event.Load 3 1 digest_2 ∷ event.Join 2 ∷ event.Order 1 3 ∷
    event.Play 1 2 digest_6 ∷ event.Bend 1 2 digest_5 ∷ event.Bend 3 1 digest_4 ∷ event.Cut 3 ∷ event.Join 3 ∷ event.Play 1 3 digest_9 ∷
    event.Load 2 2 digest_5 ∷ event.Bend 1 3 digest_9 ∷ event.Play 2 3 digest_9 ∷ event.Load 3 3 digest_9 ∷ event.Play 1 4 digest_10 ∷
    event.Play 2 4 digest_10 ∷ event.Play 3 4 digest_10 ∷ event.Bend 1 4 digest_11 ∷ event.Bend 1 4 digest_10 ∷ event.Cut 3 ∷ event.Join 3 ∷ []
unfolding digest quick u16_bytes u32_bytes u64_bytes i32_bytes block_words rounds compress hash_after digest_bytes md5
events_6 = refl

left_6 : left match (session match 1 steps_6)
    ≡ record { statuses = In 4 ∷ In 4 ∷ Out ∷ []; released = 4; kept = 0 ∷ 0 ∷ 1 ∷ 0 ∷ []; ups = 0 ∷ 0 ∷ 1 ∷ []; downs = 0 ∷ 0 ∷ 0 ∷ [] }
unfolding digest quick u16_bytes u32_bytes u64_bytes i32_bytes block_words rounds compress hash_after digest_bytes md5
left_6 = refl

-- ---- 66 steps

abbrev steps_7 : List Step
steps_7 =
    step.Play 2 ∷ step.Up 2 ∷ step.Up 2 ∷ step.Play 3 ∷ step.Play 1 ∷ step.Up 1 ∷ step.Order 2 Resign ∷ step.Up 2 ∷ step.Up 1 ∷ step.Down 2 ∷
    step.Up 3 ∷ step.Order 2 (Delete (4 ∷ [])) ∷ step.Up 2 ∷ step.Order 1 (Delete (4 ∷ [])) ∷ step.Down 1 ∷ step.Down 1 ∷ step.Cut 1 ∷ step.Join 1 ∷
    step.Up 1 ∷ step.Order 3 (Stop (2 ∷ [])) ∷ step.Up 3 ∷ step.Up 3 ∷ step.Down 2 ∷ step.Down 2 ∷ step.Order 2 (Stop (2 ∷ 3 ∷ [])) ∷ step.Up 3 ∷
    step.Up 1 ∷ step.Up 2 ∷ step.Up 2 ∷ step.Up 1 ∷ step.Down 1 ∷ step.Down 1 ∷ step.Bend 2 4 (pos 131072) ∷ step.Down 1 ∷ step.Down 3 ∷
    step.Down 1 ∷ step.Play 3 ∷ step.Down 2 ∷ step.Up 2 ∷ step.Down 1 ∷ step.Down 2 ∷ step.Down 2 ∷ step.Down 1 ∷ step.Down 3 ∷ step.Play 1 ∷
    step.Play 2 ∷ step.Up 2 ∷ step.Up 1 ∷ step.Down 1 ∷ step.Down 3 ∷ step.Play 3 ∷ step.Up 3 ∷ step.Order 2 Resign ∷ step.Down 1 ∷
    step.Order 2 (Stop (2 ∷ [])) ∷ step.Down 3 ∷ step.Order 3 (Stop (2 ∷ [])) ∷ step.Cut 3 ∷ step.Up 3 ∷ step.Up 1 ∷ step.Order 1 Resign ∷
    step.Bend 2 4 (pos 65536) ∷ step.Down 2 ∷ step.Up 1 ∷ step.Order 2 Resign ∷ step.Down 2 ∷ []

events_7 : session_events match 3 steps_7
    ≡ event.Start 1 digest_0 ∷ event.Start 2 digest_0 ∷ event.Start 3 digest_0 ∷ event.Play 2 1 digest_2 ∷ event.Play 3 1 digest_2 ∷
    event.Play 1 1 digest_2 ∷ event.Order 2 3 ∷ event.Order 2 3 ∷ event.Order 1 3 ∷ event.Cut 1 ∷ event.Join 1 ∷ event.Order 3 3 ∷ event.Order 2 3 ∷
    event.Load 1 1 digest_2 ∷ event.Bend 2 1 digest_4 ∷ event.Play 1 2 digest_6 ∷ event.Play 2 2 digest_5 ∷ event.Play 3 2 digest_6 ∷
    event.Order 2 4 ∷ event.Order 2 4 ∷ event.Order 3 4 ∷ event.Cut 3 ∷ event.Order 1 4 ∷ event.Bend 2 2 digest_8 ∷ event.Order 2 4 ∷ []
unfolding digest quick u16_bytes u32_bytes u64_bytes i32_bytes block_words rounds compress hash_after digest_bytes md5
events_7 = refl

left_7 : left match (session match 3 steps_7)
    ≡ record { statuses = In 3 ∷ In 2 ∷ Out ∷ []; released = 2; kept = 0 ∷ 0 ∷ 4 ∷ 1 ∷ []; ups = 0 ∷ 4 ∷ 0 ∷ []; downs = 1 ∷ 0 ∷ 0 ∷ [] }
unfolding digest quick u16_bytes u32_bytes u64_bytes i32_bytes block_words rounds compress hash_after digest_bytes md5
left_7 = refl

-- ---- 73 steps

abbrev steps_8 : List Step
steps_8 =
    step.Play 2 ∷ step.Play 1 ∷ step.Up 2 ∷ step.Up 1 ∷ step.Up 2 ∷ step.Up 3 ∷ step.Order 1 (Stop (2 ∷ 3 ∷ [])) ∷ step.Join 3 ∷ step.Up 3 ∷
    step.Cut 1 ∷ step.Down 2 ∷ step.Order 2 (Delete (2 ∷ 4 ∷ [])) ∷ step.Down 2 ∷ step.Up 2 ∷ step.Up 2 ∷ step.Down 2 ∷ step.Down 3 ∷ step.Play 2 ∷
    step.Up 2 ∷ step.Down 3 ∷ step.Up 2 ∷ step.Bend 3 4 (pos 131072) ∷ step.Play 2 ∷ step.Up 1 ∷ step.Bend 3 4 (pos 65536) ∷
    step.Order 2 (Stop (2 ∷ [])) ∷ step.Down 3 ∷ step.Up 2 ∷ step.Bend 2 4 (pos 65536) ∷ step.Down 3 ∷ step.Join 1 ∷
    step.Order 3 (Delete (2 ∷ 4 ∷ [])) ∷ step.Up 1 ∷ step.Up 1 ∷ step.Up 3 ∷ step.Down 2 ∷ step.Play 3 ∷ step.Up 3 ∷ step.Down 2 ∷ step.Up 2 ∷
    step.Order 3 (Delete (4 ∷ [])) ∷ step.Down 2 ∷ step.Down 2 ∷ step.Up 3 ∷ step.Down 2 ∷ step.Down 3 ∷ step.Play 2 ∷ step.Up 3 ∷ step.Down 2 ∷
    step.Up 2 ∷ step.Cut 3 ∷ step.Cut 1 ∷ step.Up 2 ∷ step.Down 1 ∷ step.Down 2 ∷ step.Play 2 ∷ step.Up 2 ∷ step.Join 1 ∷ step.Up 1 ∷
    step.Bend 2 4 (pos 99999999) ∷ step.Down 2 ∷ step.Down 3 ∷ step.Up 2 ∷ step.Join 3 ∷ step.Up 2 ∷ step.Down 1 ∷ step.Up 3 ∷ step.Up 1 ∷
    step.Down 1 ∷ step.Join 3 ∷ step.Down 1 ∷ step.Up 1 ∷ step.Down 3 ∷ []

events_8 : session_events match 2 steps_8
    ≡ event.Start 1 digest_0 ∷ event.Start 2 digest_0 ∷ event.Play 2 1 digest_2 ∷ event.Play 1 1 digest_2 ∷ event.Order 1 3 ∷ event.Join 3 ∷
    event.Cut 1 ∷ event.Order 2 3 ∷ event.Load 3 1 digest_2 ∷ event.Play 2 2 digest_6 ∷ event.Bend 3 1 digest_4 ∷ event.Bend 3 1 digest_3 ∷
    event.Order 2 4 ∷ event.Bend 2 2 digest_8 ∷ event.Join 1 ∷ event.Order 3 3 ∷ event.Play 3 2 digest_8 ∷ event.Order 3 4 ∷
    event.Play 2 3 digest_12 ∷ event.Cut 3 ∷ event.Cut 1 ∷ event.Play 2 4 digest_13 ∷ event.Join 1 ∷ event.Join 3 ∷ event.Load 1 4 digest_13 ∷
    event.Load 3 4 digest_13 ∷ []
unfolding digest quick u16_bytes u32_bytes u64_bytes i32_bytes block_words rounds compress hash_after digest_bytes md5
events_8 = refl

left_8 : left match (session match 2 steps_8)
    ≡ record { statuses = In 4 ∷ In 4 ∷ In 4 ∷ []; released = 4; kept = 0 ∷ 0 ∷ 2 ∷ 2 ∷ []; ups = 0 ∷ 0 ∷ 0 ∷ []; downs = 0 ∷ 0 ∷ 1 ∷ [] }
unfolding digest quick u16_bytes u32_bytes u64_bytes i32_bytes block_words rounds compress hash_after digest_bytes md5
left_8 = refl

-- ---- 80 steps

abbrev steps_9 : List Step
steps_9 =
    step.Play 2 ∷ step.Join 3 ∷ step.Cut 2 ∷ step.Play 1 ∷ step.Up 3 ∷ step.Up 1 ∷ step.Down 1 ∷ step.Order 1 Resign ∷ step.Up 1 ∷
    step.Order 2 (Delete (2 ∷ 4 ∷ [])) ∷ step.Down 1 ∷ step.Bend 1 4 (pos 65536) ∷ step.Play 1 ∷ step.Down 1 ∷ step.Up 1 ∷ step.Up 1 ∷ step.Down 1 ∷
    step.Up 1 ∷ step.Up 1 ∷ step.Order 1 (Delete (2 ∷ 4 ∷ [])) ∷ step.Order 1 (Stop (2 ∷ [])) ∷ step.Down 3 ∷ step.Down 3 ∷ step.Up 1 ∷ step.Play 3 ∷
    step.Down 3 ∷ step.Order 3 Resign ∷ step.Up 1 ∷ step.Up 3 ∷ step.Down 1 ∷ step.Down 3 ∷ step.Down 3 ∷ step.Up 3 ∷ step.Cut 3 ∷ step.Down 1 ∷
    step.Down 1 ∷ step.Down 1 ∷ step.Join 3 ∷ step.Join 2 ∷ step.Up 3 ∷ step.Up 2 ∷ step.Down 2 ∷ step.Play 1 ∷ step.Down 1 ∷ step.Up 1 ∷
    step.Down 1 ∷ step.Down 2 ∷ step.Up 2 ∷ step.Down 1 ∷ step.Up 1 ∷ step.Up 1 ∷ step.Up 1 ∷ step.Down 3 ∷ step.Order 3 (Delete (2 ∷ 4 ∷ [])) ∷
    step.Down 3 ∷ step.Bend 3 4 (pos 65536) ∷ step.Down 2 ∷ step.Down 1 ∷ step.Down 3 ∷ step.Play 1 ∷ step.Down 3 ∷ step.Up 1 ∷ step.Down 1 ∷
    step.Play 3 ∷ step.Up 3 ∷ step.Down 2 ∷ step.Play 3 ∷ step.Play 2 ∷ step.Up 2 ∷ step.Down 2 ∷ step.Play 3 ∷ step.Down 2 ∷ step.Play 2 ∷
    step.Bend 2 4 (pos 65536) ∷ step.Up 2 ∷ step.Down 3 ∷ step.Cut 1 ∷ step.Join 1 ∷ step.Up 1 ∷ step.Bend 3 4 (pos 131072) ∷ []

events_9 : session_events match 2 steps_9
    ≡ event.Start 1 digest_0 ∷ event.Start 2 digest_0 ∷ event.Play 2 1 digest_2 ∷ event.Join 3 ∷ event.Cut 2 ∷ event.Play 1 1 digest_2 ∷
    event.Order 1 3 ∷ event.Bend 1 1 digest_3 ∷ event.Play 1 2 digest_8 ∷ event.Order 1 4 ∷ event.Order 1 4 ∷ event.Load 3 1 digest_2 ∷
    event.Play 3 2 digest_6 ∷ event.Order 3 4 ∷ event.Cut 3 ∷ event.Join 3 ∷ event.Join 2 ∷ event.Play 1 3 digest_14 ∷ event.Load 3 3 digest_14 ∷
    event.Bend 3 3 digest_14 ∷ event.Load 2 3 digest_14 ∷ event.Play 1 4 digest_11 ∷ event.Play 3 4 digest_11 ∷ event.Play 2 4 digest_11 ∷
    event.Bend 2 4 digest_11 ∷ event.Cut 1 ∷ event.Join 1 ∷ event.Bend 3 4 digest_10 ∷ []
unfolding digest quick u16_bytes u32_bytes u64_bytes i32_bytes block_words rounds compress hash_after digest_bytes md5
events_9 = refl

left_9 : left match (session match 2 steps_9)
    ≡ record { statuses = Waiting 2 ∷ In 4 ∷ In 4 ∷ []; released = 4; kept = 0 ∷ 0 ∷ 1 ∷ 2 ∷ []; ups = 0 ∷ 0 ∷ 0 ∷ []; downs = 0 ∷ 1 ∷ 0 ∷ [] }
unfolding digest quick u16_bytes u32_bytes u64_bytes i32_bytes block_words rounds compress hash_after digest_bytes md5
left_9 = refl
