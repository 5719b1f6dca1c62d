-- Generated sessions, as they come out of an independent program: two clients, delay 2 and 6 turns, where fencers of enemies fight.
use Rattle.sim_base.specs.declared.step.Event.TheVariants as event
use Rattle.sim_base.specs.declared.step.Step.TheVariants as step
use Rattle.sim_plain_session.proofs.Common.{Attack, block_words, codes, compress, Delete, digest, digest_bytes, first, guard, harm, hash_after, i32_bytes, In}
use Rattle.sim_plain_session.proofs.Common.{List, md5, mid, Out, pos, quick, refl, Resign, rounds, session, session_events, Setup, setup_of, Some, Step, Stop}
use Rattle.sim_plain_session.proofs.{Common.{Template, u16_bytes, u32_bytes, u64_bytes, Waiting, ℕ, [], ◌∷◌, ◌≡◌}, GeneratedPosts.left}

-- a guard that hits less, and not each time
abbrev fencer : Template
fencer = record guard {
  name = codes "fencer";
  arms = Some (record { harm = harm 4 0; range = pos 131072; vision = pos 655360; repeat = 0; accuracy = 75 });
}

abbrev match : Setup
match =
    record (setup_of
    (134 ∷ 110 ∷ 69 ∷ 135 ∷ 90 ∷ 244 ∷ 180 ∷ 92 ∷ 212 ∷ 32 ∷ 8 ∷ 201 ∷ 127 ∷ 207 ∷ 69 ∷ 20 ∷ [])
    16 (0 ∷ 4 ∷ 2 ∷ []) 2 0 (fencer ∷ [])
    (first 0 1 (mid 5 5) ∷ first 0 2 (mid 6 5) ∷ first 0 2 (mid 7 5) ∷ first 0 1 (mid 12 12) ∷ [])) { delay = 2; turns = 6 }

-- ---- the digests that are printed

abbrev digest_0 : List ℕ
digest_0 = 191 ∷ 18 ∷ 78 ∷ 79 ∷ 241 ∷ 196 ∷ 16 ∷ 31 ∷ 16 ∷ 82 ∷ 53 ∷ 57 ∷ 68 ∷ 49 ∷ 68 ∷ 89 ∷ []

abbrev digest_1 : List ℕ
digest_1 = 43 ∷ 91 ∷ 111 ∷ 99 ∷ 225 ∷ 236 ∷ 248 ∷ 234 ∷ 166 ∷ 118 ∷ 195 ∷ 6 ∷ 197 ∷ 196 ∷ 255 ∷ 43 ∷ []

abbrev digest_2 : List ℕ
digest_2 = 141 ∷ 185 ∷ 25 ∷ 24 ∷ 208 ∷ 35 ∷ 14 ∷ 65 ∷ 163 ∷ 218 ∷ 249 ∷ 50 ∷ 97 ∷ 90 ∷ 129 ∷ 225 ∷ []

abbrev digest_3 : List ℕ
digest_3 = 168 ∷ 54 ∷ 124 ∷ 2 ∷ 53 ∷ 189 ∷ 136 ∷ 27 ∷ 96 ∷ 29 ∷ 250 ∷ 191 ∷ 142 ∷ 3 ∷ 44 ∷ 111 ∷ []

abbrev digest_4 : List ℕ
digest_4 = 53 ∷ 220 ∷ 68 ∷ 70 ∷ 45 ∷ 230 ∷ 228 ∷ 23 ∷ 64 ∷ 112 ∷ 189 ∷ 39 ∷ 147 ∷ 142 ∷ 216 ∷ 210 ∷ []

abbrev digest_5 : List ℕ
digest_5 = 34 ∷ 80 ∷ 214 ∷ 6 ∷ 240 ∷ 204 ∷ 136 ∷ 51 ∷ 65 ∷ 156 ∷ 246 ∷ 5 ∷ 183 ∷ 55 ∷ 156 ∷ 9 ∷ []

abbrev digest_6 : List ℕ
digest_6 = 30 ∷ 252 ∷ 61 ∷ 83 ∷ 233 ∷ 39 ∷ 83 ∷ 15 ∷ 69 ∷ 238 ∷ 80 ∷ 99 ∷ 107 ∷ 134 ∷ 150 ∷ 254 ∷ []

abbrev digest_7 : List ℕ
digest_7 = 72 ∷ 241 ∷ 70 ∷ 68 ∷ 37 ∷ 103 ∷ 220 ∷ 47 ∷ 123 ∷ 161 ∷ 204 ∷ 114 ∷ 10 ∷ 74 ∷ 73 ∷ 37 ∷ []

abbrev digest_8 : List ℕ
digest_8 = 96 ∷ 130 ∷ 74 ∷ 96 ∷ 129 ∷ 206 ∷ 193 ∷ 51 ∷ 156 ∷ 45 ∷ 2 ∷ 77 ∷ 211 ∷ 143 ∷ 153 ∷ 124 ∷ []

abbrev digest_9 : List ℕ
digest_9 = 160 ∷ 4 ∷ 174 ∷ 14 ∷ 41 ∷ 139 ∷ 124 ∷ 244 ∷ 87 ∷ 184 ∷ 211 ∷ 21 ∷ 72 ∷ 36 ∷ 101 ∷ 224 ∷ []

abbrev digest_10 : List ℕ
digest_10 = 209 ∷ 1 ∷ 214 ∷ 15 ∷ 165 ∷ 148 ∷ 217 ∷ 128 ∷ 192 ∷ 110 ∷ 233 ∷ 141 ∷ 140 ∷ 141 ∷ 155 ∷ 217 ∷ []

abbrev digest_11 : List ℕ
digest_11 = 5 ∷ 33 ∷ 226 ∷ 105 ∷ 252 ∷ 107 ∷ 221 ∷ 234 ∷ 208 ∷ 30 ∷ 79 ∷ 61 ∷ 174 ∷ 178 ∷ 56 ∷ 162 ∷ []

abbrev digest_12 : List ℕ
digest_12 = 195 ∷ 225 ∷ 27 ∷ 162 ∷ 63 ∷ 54 ∷ 237 ∷ 23 ∷ 100 ∷ 201 ∷ 125 ∷ 104 ∷ 130 ∷ 187 ∷ 97 ∷ 86 ∷ []

abbrev digest_13 : List ℕ
digest_13 = 159 ∷ 63 ∷ 129 ∷ 116 ∷ 173 ∷ 206 ∷ 83 ∷ 196 ∷ 23 ∷ 166 ∷ 193 ∷ 78 ∷ 125 ∷ 154 ∷ 144 ∷ 136 ∷ []

abbrev digest_14 : List ℕ
digest_14 = 186 ∷ 10 ∷ 24 ∷ 17 ∷ 110 ∷ 89 ∷ 16 ∷ 97 ∷ 201 ∷ 190 ∷ 195 ∷ 5 ∷ 19 ∷ 16 ∷ 211 ∷ 91 ∷ []

abbrev digest_15 : List ℕ
digest_15 = 96 ∷ 229 ∷ 55 ∷ 35 ∷ 80 ∷ 95 ∷ 9 ∷ 62 ∷ 91 ∷ 101 ∷ 199 ∷ 164 ∷ 179 ∷ 115 ∷ 239 ∷ 95 ∷ []

abbrev digest_16 : List ℕ
digest_16 = 137 ∷ 194 ∷ 252 ∷ 20 ∷ 222 ∷ 167 ∷ 1 ∷ 155 ∷ 134 ∷ 207 ∷ 132 ∷ 150 ∷ 115 ∷ 186 ∷ 46 ∷ 104 ∷ []

abbrev digest_17 : List ℕ
digest_17 = 151 ∷ 103 ∷ 168 ∷ 158 ∷ 49 ∷ 181 ∷ 66 ∷ 125 ∷ 163 ∷ 38 ∷ 121 ∷ 149 ∷ 138 ∷ 7 ∷ 179 ∷ 188 ∷ []

abbrev digest_18 : List ℕ
digest_18 = 239 ∷ 155 ∷ 146 ∷ 154 ∷ 21 ∷ 31 ∷ 232 ∷ 12 ∷ 130 ∷ 131 ∷ 106 ∷ 224 ∷ 162 ∷ 19 ∷ 94 ∷ 209 ∷ []

abbrev digest_19 : List ℕ
digest_19 = 204 ∷ 136 ∷ 106 ∷ 186 ∷ 54 ∷ 232 ∷ 30 ∷ 199 ∷ 179 ∷ 118 ∷ 166 ∷ 24 ∷ 9 ∷ 164 ∷ 87 ∷ 133 ∷ []

abbrev digest_20 : List ℕ
digest_20 = 148 ∷ 9 ∷ 114 ∷ 138 ∷ 94 ∷ 240 ∷ 32 ∷ 201 ∷ 150 ∷ 195 ∷ 178 ∷ 233 ∷ 232 ∷ 191 ∷ 65 ∷ 76 ∷ []

abbrev digest_21 : List ℕ
digest_21 = 143 ∷ 209 ∷ 13 ∷ 204 ∷ 128 ∷ 211 ∷ 149 ∷ 48 ∷ 21 ∷ 77 ∷ 37 ∷ 70 ∷ 151 ∷ 7 ∷ 136 ∷ 145 ∷ []

abbrev digest_22 : List ℕ
digest_22 = 25 ∷ 45 ∷ 43 ∷ 237 ∷ 50 ∷ 201 ∷ 88 ∷ 230 ∷ 46 ∷ 155 ∷ 116 ∷ 222 ∷ 222 ∷ 221 ∷ 50 ∷ 74 ∷ []

abbrev digest_23 : List ℕ
digest_23 = 78 ∷ 162 ∷ 58 ∷ 147 ∷ 84 ∷ 134 ∷ 229 ∷ 84 ∷ 63 ∷ 21 ∷ 246 ∷ 113 ∷ 110 ∷ 251 ∷ 49 ∷ 113 ∷ []

abbrev digest_24 : List ℕ
digest_24 = 191 ∷ 99 ∷ 170 ∷ 166 ∷ 49 ∷ 24 ∷ 82 ∷ 68 ∷ 142 ∷ 124 ∷ 117 ∷ 23 ∷ 236 ∷ 181 ∷ 178 ∷ 73 ∷ []

abbrev digest_25 : List ℕ
digest_25 = 218 ∷ 120 ∷ 6 ∷ 136 ∷ 125 ∷ 230 ∷ 101 ∷ 114 ∷ 197 ∷ 243 ∷ 199 ∷ 41 ∷ 247 ∷ 252 ∷ 170 ∷ 85 ∷ []

abbrev digest_26 : List ℕ
digest_26 = 240 ∷ 216 ∷ 124 ∷ 235 ∷ 100 ∷ 241 ∷ 44 ∷ 89 ∷ 152 ∷ 21 ∷ 83 ∷ 204 ∷ 22 ∷ 165 ∷ 120 ∷ 71 ∷ []

abbrev digest_27 : List ℕ
digest_27 = 201 ∷ 193 ∷ 7 ∷ 46 ∷ 146 ∷ 60 ∷ 86 ∷ 146 ∷ 110 ∷ 17 ∷ 155 ∷ 246 ∷ 80 ∷ 172 ∷ 130 ∷ 182 ∷ []

abbrev digest_28 : List ℕ
digest_28 = 97 ∷ 213 ∷ 175 ∷ 171 ∷ 165 ∷ 219 ∷ 129 ∷ 182 ∷ 203 ∷ 146 ∷ 229 ∷ 248 ∷ 123 ∷ 112 ∷ 174 ∷ 125 ∷ []

abbrev digest_29 : List ℕ
digest_29 = 176 ∷ 146 ∷ 96 ∷ 163 ∷ 54 ∷ 23 ∷ 238 ∷ 55 ∷ 17 ∷ 53 ∷ 31 ∷ 97 ∷ 133 ∷ 143 ∷ 12 ∷ 29 ∷ []

abbrev digest_30 : List ℕ
digest_30 = 199 ∷ 22 ∷ 188 ∷ 205 ∷ 70 ∷ 109 ∷ 95 ∷ 206 ∷ 135 ∷ 79 ∷ 136 ∷ 160 ∷ 20 ∷ 23 ∷ 93 ∷ 189 ∷ []

abbrev digest_31 : List ℕ
digest_31 = 144 ∷ 7 ∷ 147 ∷ 137 ∷ 192 ∷ 6 ∷ 91 ∷ 142 ∷ 233 ∷ 106 ∷ 118 ∷ 53 ∷ 118 ∷ 88 ∷ 43 ∷ 225 ∷ []

abbrev digest_32 : List ℕ
digest_32 = 20 ∷ 206 ∷ 18 ∷ 79 ∷ 32 ∷ 213 ∷ 127 ∷ 205 ∷ 224 ∷ 135 ∷ 35 ∷ 215 ∷ 30 ∷ 14 ∷ 143 ∷ 72 ∷ []

abbrev digest_33 : List ℕ
digest_33 = 184 ∷ 240 ∷ 92 ∷ 98 ∷ 22 ∷ 34 ∷ 114 ∷ 106 ∷ 158 ∷ 63 ∷ 132 ∷ 255 ∷ 249 ∷ 97 ∷ 204 ∷ 126 ∷ []

abbrev digest_34 : List ℕ
digest_34 = 47 ∷ 170 ∷ 137 ∷ 149 ∷ 62 ∷ 195 ∷ 26 ∷ 149 ∷ 102 ∷ 84 ∷ 85 ∷ 73 ∷ 161 ∷ 193 ∷ 167 ∷ 252 ∷ []

abbrev digest_35 : List ℕ
digest_35 = 213 ∷ 113 ∷ 135 ∷ 37 ∷ 85 ∷ 224 ∷ 73 ∷ 176 ∷ 248 ∷ 248 ∷ 49 ∷ 15 ∷ 3 ∷ 179 ∷ 195 ∷ 243 ∷ []

abbrev digest_36 : List ℕ
digest_36 = 157 ∷ 230 ∷ 160 ∷ 229 ∷ 243 ∷ 168 ∷ 179 ∷ 241 ∷ 44 ∷ 31 ∷ 254 ∷ 23 ∷ 89 ∷ 171 ∷ 231 ∷ 173 ∷ []

abbrev digest_37 : List ℕ
digest_37 = 116 ∷ 139 ∷ 100 ∷ 188 ∷ 214 ∷ 175 ∷ 236 ∷ 179 ∷ 183 ∷ 246 ∷ 39 ∷ 136 ∷ 255 ∷ 103 ∷ 28 ∷ 247 ∷ []

abbrev digest_38 : List ℕ
digest_38 = 162 ∷ 180 ∷ 29 ∷ 174 ∷ 73 ∷ 10 ∷ 122 ∷ 58 ∷ 118 ∷ 102 ∷ 15 ∷ 125 ∷ 63 ∷ 172 ∷ 240 ∷ 43 ∷ []

abbrev digest_39 : List ℕ
digest_39 = 174 ∷ 241 ∷ 108 ∷ 99 ∷ 101 ∷ 196 ∷ 6 ∷ 248 ∷ 28 ∷ 12 ∷ 48 ∷ 78 ∷ 230 ∷ 32 ∷ 56 ∷ 207 ∷ []

abbrev digest_40 : List ℕ
digest_40 = 121 ∷ 81 ∷ 161 ∷ 59 ∷ 66 ∷ 104 ∷ 227 ∷ 158 ∷ 149 ∷ 111 ∷ 74 ∷ 142 ∷ 124 ∷ 209 ∷ 232 ∷ 25 ∷ []

abbrev digest_41 : List ℕ
digest_41 = 95 ∷ 191 ∷ 255 ∷ 38 ∷ 9 ∷ 220 ∷ 139 ∷ 66 ∷ 76 ∷ 11 ∷ 23 ∷ 146 ∷ 80 ∷ 176 ∷ 213 ∷ 91 ∷ []

abbrev digest_42 : List ℕ
digest_42 = 212 ∷ 144 ∷ 138 ∷ 96 ∷ 0 ∷ 133 ∷ 119 ∷ 197 ∷ 209 ∷ 241 ∷ 197 ∷ 128 ∷ 47 ∷ 240 ∷ 228 ∷ 205 ∷ []

abbrev digest_43 : List ℕ
digest_43 = 102 ∷ 75 ∷ 141 ∷ 229 ∷ 214 ∷ 80 ∷ 66 ∷ 221 ∷ 76 ∷ 134 ∷ 207 ∷ 232 ∷ 80 ∷ 20 ∷ 17 ∷ 11 ∷ []

abbrev digest_44 : List ℕ
digest_44 = 112 ∷ 37 ∷ 91 ∷ 4 ∷ 235 ∷ 201 ∷ 102 ∷ 1 ∷ 251 ∷ 39 ∷ 75 ∷ 163 ∷ 244 ∷ 17 ∷ 137 ∷ 252 ∷ []

abbrev digest_45 : List ℕ
digest_45 = 249 ∷ 51 ∷ 96 ∷ 184 ∷ 4 ∷ 50 ∷ 208 ∷ 174 ∷ 204 ∷ 204 ∷ 110 ∷ 10 ∷ 157 ∷ 133 ∷ 94 ∷ 68 ∷ []

abbrev digest_46 : List ℕ
digest_46 = 75 ∷ 105 ∷ 124 ∷ 59 ∷ 214 ∷ 0 ∷ 108 ∷ 94 ∷ 45 ∷ 134 ∷ 146 ∷ 57 ∷ 54 ∷ 221 ∷ 207 ∷ 71 ∷ []

-- ---- 15 steps

abbrev steps_0 : List Step
steps_0 =
    step.Play 2 ∷ step.Up 2 ∷ step.Up 2 ∷ step.Order 1 (Attack (3 ∷ 4 ∷ []) 5) ∷ step.Order 1 (Attack (3 ∷ 4 ∷ []) 5) ∷ step.Up 1 ∷
    step.Bend 2 3 (pos 65536) ∷ step.Down 1 ∷ step.Down 2 ∷ step.Bend 1 2 (pos 65536) ∷ step.Order 2 (Stop (2 ∷ 5 ∷ [])) ∷ step.Up 1 ∷ step.Down 2 ∷
    step.Play 2 ∷ step.Down 1 ∷ []

events_0 : session_events match 2 steps_0
    ≡ event.Start 1 digest_0 ∷ event.Start 2 digest_0 ∷ event.Play 2 1 digest_1 ∷ event.Order 1 3 ∷ event.Order 1 3 ∷ event.Bend 2 1 digest_2 ∷
    event.Bend 1 0 digest_3 ∷ event.Order 2 4 ∷ event.Play 2 2 digest_4 ∷ []
unfolding digest quick u16_bytes u32_bytes u64_bytes i32_bytes block_words rounds compress hash_after digest_bytes md5
events_0 = refl

left_0 : left match (session match 2 steps_0)
    ≡ record { statuses = In 2 ∷ In 3 ∷ []; released = 2; kept = 0 ∷ 0 ∷ 2 ∷ 0 ∷ 0 ∷ 0 ∷ []; ups = 0 ∷ 3 ∷ []; downs = 0 ∷ 0 ∷ [] }
unfolding digest quick u16_bytes u32_bytes u64_bytes i32_bytes block_words rounds compress hash_after digest_bytes md5
left_0 = refl

-- ---- 22 steps

abbrev steps_1 : List Step
steps_1 =
    step.Play 1 ∷ step.Up 1 ∷ step.Order 1 (Attack (3 ∷ 4 ∷ []) 5) ∷ step.Play 1 ∷ step.Play 2 ∷ step.Order 1 (Attack (2 ∷ 5 ∷ []) 4) ∷ step.Up 1 ∷
    step.Order 1 (Stop (2 ∷ 5 ∷ [])) ∷ step.Bend 2 4 (pos 131072) ∷ step.Up 1 ∷ step.Play 2 ∷ step.Down 2 ∷ step.Down 1 ∷ step.Up 1 ∷ step.Up 1 ∷
    step.Up 2 ∷ step.Up 1 ∷ step.Down 2 ∷ step.Down 1 ∷ step.Up 2 ∷ step.Bend 1 3 (pos 65536) ∷ step.Up 2 ∷ []

events_1 : session_events match 2 steps_1
    ≡ event.Start 1 digest_0 ∷ event.Start 2 digest_0 ∷ event.Play 1 1 digest_1 ∷ event.Order 1 4 ∷ event.Play 1 2 digest_5 ∷
    event.Play 2 1 digest_1 ∷ event.Order 1 5 ∷ event.Order 1 5 ∷ event.Bend 2 1 digest_6 ∷ event.Play 2 2 digest_7 ∷ event.Bend 1 2 digest_4 ∷ []
unfolding digest quick u16_bytes u32_bytes u64_bytes i32_bytes block_words rounds compress hash_after digest_bytes md5
events_1 = refl

left_1 : left match (session match 2 steps_1)
    ≡ record { statuses = In 4 ∷ In 3 ∷ []; released = 3; kept = 0 ∷ 0 ∷ 0 ∷ 1 ∷ 1 ∷ 0 ∷ []; ups = 1 ∷ 1 ∷ []; downs = 1 ∷ 1 ∷ [] }
unfolding digest quick u16_bytes u32_bytes u64_bytes i32_bytes block_words rounds compress hash_after digest_bytes md5
left_1 = refl

-- ---- 29 steps

abbrev steps_2 : List Step
steps_2 =
    step.Play 1 ∷ step.Play 1 ∷ step.Play 2 ∷ step.Up 2 ∷ step.Order 1 Resign ∷ step.Up 1 ∷ step.Up 1 ∷ step.Up 2 ∷ step.Down 2 ∷ step.Down 1 ∷
    step.Up 1 ∷ step.Up 1 ∷ step.Up 1 ∷ step.Order 1 Resign ∷ step.Play 2 ∷ step.Bend 1 2 (pos 131072) ∷ step.Up 2 ∷ step.Down 1 ∷ step.Down 2 ∷
    step.Up 1 ∷ step.Up 2 ∷ step.Play 1 ∷ step.Down 1 ∷ step.Order 1 Resign ∷ step.Up 1 ∷ step.Down 2 ∷ step.Down 1 ∷ step.Play 2 ∷ step.Up 2 ∷ []

events_2 : session_events match 2 steps_2
    ≡ event.Start 1 digest_0 ∷ event.Start 2 digest_0 ∷ event.Play 1 1 digest_1 ∷ event.Play 1 2 digest_5 ∷ event.Play 2 1 digest_1 ∷
    event.Order 1 5 ∷ event.Order 1 5 ∷ event.Play 2 2 digest_5 ∷ event.Bend 1 2 digest_8 ∷ event.Play 1 3 digest_9 ∷ event.Order 1 6 ∷
    event.Play 2 3 digest_10 ∷ event.Notice 3 2 ∷ []
unfolding digest quick u16_bytes u32_bytes u64_bytes i32_bytes block_words rounds compress hash_after digest_bytes md5
events_2 = refl

left_2 : left match (session match 2 steps_2)
    ≡ record { statuses = In 4 ∷ In 4 ∷ []; released = 4; kept = 0 ∷ 0 ∷ 0 ∷ 0 ∷ 2 ∷ 0 ∷ []; ups = 2 ∷ 1 ∷ []; downs = 1 ∷ 2 ∷ [] }
unfolding digest quick u16_bytes u32_bytes u64_bytes i32_bytes block_words rounds compress hash_after digest_bytes md5
left_2 = refl

-- ---- 37 steps

abbrev steps_3 : List Step
steps_3 =
    step.Play 2 ∷ step.Up 2 ∷ step.Bend 1 4 (pos 65536) ∷ step.Up 2 ∷ step.Play 1 ∷ step.Up 2 ∷ step.Play 1 ∷ step.Up 1 ∷ step.Up 1 ∷ step.Up 1 ∷
    step.Down 2 ∷ step.Down 2 ∷ step.Play 2 ∷ step.Down 1 ∷ step.Up 1 ∷ step.Order 1 (Attack (3 ∷ 4 ∷ []) 5) ∷ step.Up 2 ∷
    step.Order 1 (Delete (5 ∷ 3 ∷ [])) ∷ step.Up 2 ∷ step.Down 2 ∷ step.Down 2 ∷ step.Down 1 ∷ step.Down 1 ∷ step.Down 1 ∷
    step.Order 2 (Attack (2 ∷ []) 9) ∷ step.Play 2 ∷ step.Up 2 ∷ step.Down 1 ∷ step.Play 2 ∷ step.Up 2 ∷ step.Up 1 ∷ step.Up 2 ∷ step.Up 1 ∷
    step.Down 2 ∷ step.Down 2 ∷ step.Cut 2 ∷ step.Join 2 ∷ []

events_3 : session_events match 2 steps_3
    ≡ event.Start 1 digest_0 ∷ event.Start 2 digest_0 ∷ event.Play 2 1 digest_1 ∷ event.Bend 1 0 digest_11 ∷ event.Play 1 1 digest_12 ∷
    event.Play 1 2 digest_13 ∷ event.Play 2 2 digest_5 ∷ event.Order 1 5 ∷ event.Order 1 5 ∷ event.Order 2 5 ∷ event.Play 2 3 digest_10 ∷
    event.Play 2 4 digest_14 ∷ event.Cut 2 ∷ event.Join 2 ∷ []
unfolding digest quick u16_bytes u32_bytes u64_bytes i32_bytes block_words rounds compress hash_after digest_bytes md5
events_3 = refl

left_3 : left match (session match 2 steps_3)
    ≡ record { statuses = In 4 ∷ Out ∷ []; released = 4; kept = 0 ∷ 0 ∷ 0 ∷ 0 ∷ 3 ∷ 0 ∷ []; ups = 0 ∷ 1 ∷ []; downs = 2 ∷ 0 ∷ [] }
unfolding digest quick u16_bytes u32_bytes u64_bytes i32_bytes block_words rounds compress hash_after digest_bytes md5
left_3 = refl

-- ---- 44 steps

abbrev steps_4 : List Step
steps_4 =
    step.Bend 1 3 (pos 131072) ∷ step.Play 1 ∷ step.Up 1 ∷ step.Up 1 ∷ step.Play 1 ∷ step.Play 2 ∷ step.Order 1 (Attack (2 ∷ 5 ∷ []) 4) ∷ step.Up 2 ∷
    step.Up 2 ∷ step.Down 1 ∷ step.Down 1 ∷ step.Down 2 ∷ step.Play 2 ∷ step.Down 2 ∷ step.Play 1 ∷ step.Order 1 Resign ∷ step.Up 2 ∷ step.Down 2 ∷
    step.Play 2 ∷ step.Up 1 ∷ step.Order 2 (Delete (5 ∷ 3 ∷ [])) ∷ step.Up 1 ∷ step.Up 2 ∷ step.Up 2 ∷ step.Up 1 ∷ step.Up 1 ∷ step.Up 2 ∷
    step.Up 2 ∷ step.Down 1 ∷ step.Down 2 ∷ step.Down 2 ∷ step.Down 2 ∷ step.Bend 1 2 (pos 131072) ∷ step.Down 1 ∷
    step.Order 2 (Attack (2 ∷ 5 ∷ []) 4) ∷ step.Up 2 ∷ step.Up 1 ∷ step.Play 2 ∷ step.Up 1 ∷ step.Up 2 ∷ step.Down 1 ∷ step.Play 1 ∷ step.Down 2 ∷
    step.Up 1 ∷ []

events_4 : session_events match 2 steps_4
    ≡ event.Start 1 digest_0 ∷ event.Start 2 digest_0 ∷ event.Bend 1 0 digest_15 ∷ event.Play 1 1 digest_16 ∷ event.Play 1 2 digest_17 ∷
    event.Play 2 1 digest_1 ∷ event.Order 1 5 ∷ event.Notice 1 2 ∷ event.Play 2 2 digest_5 ∷ event.Play 1 3 digest_18 ∷ event.Order 1 6 ∷
    event.Play 2 3 digest_10 ∷ event.Notice 2 1 ∷ event.Order 2 6 ∷ event.Notice 3 1 ∷ event.Bend 1 3 digest_19 ∷ event.Order 2 6 ∷
    event.Play 2 4 digest_14 ∷ event.Play 1 4 digest_20 ∷ event.Notice 4 1 ∷ []
unfolding digest quick u16_bytes u32_bytes u64_bytes i32_bytes block_words rounds compress hash_after digest_bytes md5
events_4 = refl

left_4 : left match (session match 2 steps_4)
    ≡ record { statuses = In 5 ∷ In 5 ∷ []; released = 5; kept = 0 ∷ 0 ∷ 0 ∷ 0 ∷ 1 ∷ 3 ∷ []; ups = 1 ∷ 1 ∷ []; downs = 6 ∷ 5 ∷ [] }
unfolding digest quick u16_bytes u32_bytes u64_bytes i32_bytes block_words rounds compress hash_after digest_bytes md5
left_4 = refl

-- ---- 51 steps

abbrev steps_5 : List Step
steps_5 =
    step.Order 2 (Attack (2 ∷ []) 9) ∷ step.Up 2 ∷ step.Play 2 ∷ step.Down 2 ∷ step.Play 1 ∷ step.Up 1 ∷ step.Up 1 ∷ step.Up 2 ∷
    step.Bend 2 4 (pos 65536) ∷ step.Play 2 ∷ step.Down 1 ∷ step.Play 1 ∷ step.Order 1 (Attack (2 ∷ 5 ∷ []) 4) ∷ step.Up 2 ∷ step.Down 1 ∷
    step.Up 1 ∷ step.Up 1 ∷ step.Up 2 ∷ step.Down 1 ∷ step.Up 2 ∷ step.Play 1 ∷ step.Down 1 ∷ step.Down 2 ∷ step.Down 2 ∷ step.Play 2 ∷ step.Down 2 ∷
    step.Play 1 ∷ step.Up 2 ∷ step.Up 2 ∷ step.Up 1 ∷ step.Down 2 ∷ step.Up 1 ∷ step.Up 1 ∷ step.Order 2 (Delete (5 ∷ 3 ∷ [])) ∷ step.Play 2 ∷
    step.Up 1 ∷ step.Down 1 ∷ step.Up 2 ∷ step.Up 1 ∷ step.Up 2 ∷ step.Bend 1 3 (pos 65536) ∷ step.Down 1 ∷ step.Down 1 ∷ step.Up 2 ∷ step.Down 1 ∷
    step.Down 1 ∷ step.Play 1 ∷ step.Down 2 ∷ step.Up 1 ∷ step.Down 2 ∷ step.Play 2 ∷ []

events_5 : session_events match 2 steps_5
    ≡ event.Start 1 digest_0 ∷ event.Start 2 digest_0 ∷ event.Order 2 3 ∷ event.Play 2 1 digest_1 ∷ event.Play 1 1 digest_1 ∷
    event.Bend 2 1 digest_12 ∷ event.Play 2 2 digest_13 ∷ event.Play 1 2 digest_5 ∷ event.Order 1 5 ∷ event.Play 1 3 digest_10 ∷
    event.Play 2 3 digest_21 ∷ event.Play 1 4 digest_14 ∷ event.Order 2 6 ∷ event.Play 2 4 digest_22 ∷ event.Bend 1 4 digest_23 ∷
    event.Play 1 5 digest_24 ∷ event.Play 2 5 digest_25 ∷ []
unfolding digest quick u16_bytes u32_bytes u64_bytes i32_bytes block_words rounds compress hash_after digest_bytes md5
events_5 = refl

left_5 : left match (session match 2 steps_5)
    ≡ record { statuses = In 6 ∷ In 6 ∷ []; released = 6; kept = 0 ∷ 0 ∷ 1 ∷ 0 ∷ 1 ∷ 1 ∷ []; ups = 0 ∷ 1 ∷ []; downs = 0 ∷ 1 ∷ [] }
unfolding digest quick u16_bytes u32_bytes u64_bytes i32_bytes block_words rounds compress hash_after digest_bytes md5
left_5 = refl

-- ---- 58 steps

abbrev steps_6 : List Step
steps_6 =
    step.Play 1 ∷ step.Play 2 ∷ step.Up 1 ∷ step.Play 1 ∷ step.Up 2 ∷ step.Up 2 ∷ step.Up 1 ∷ step.Down 2 ∷ step.Up 1 ∷ step.Play 2 ∷
    step.Order 2 (Delete (5 ∷ 3 ∷ [])) ∷ step.Down 1 ∷ step.Up 2 ∷ step.Play 2 ∷ step.Up 2 ∷ step.Bend 1 2 (pos 131072) ∷ step.Play 1 ∷ step.Up 1 ∷
    step.Down 2 ∷ step.Up 1 ∷ step.Up 2 ∷ step.Bend 1 4 (pos 131072) ∷ step.Down 2 ∷ step.Down 1 ∷ step.Down 1 ∷ step.Play 2 ∷ step.Up 1 ∷
    step.Play 1 ∷ step.Up 2 ∷ step.Down 2 ∷ step.Up 2 ∷ step.Up 2 ∷ step.Down 1 ∷ step.Cut 2 ∷ step.Up 1 ∷ step.Down 1 ∷ step.Down 1 ∷ step.Up 1 ∷
    step.Join 2 ∷ step.Play 1 ∷ step.Up 2 ∷ step.Down 1 ∷ step.Down 1 ∷ step.Up 1 ∷ step.Up 1 ∷ step.Down 2 ∷ step.Play 1 ∷ step.Down 2 ∷ step.Up 1 ∷
    step.Down 2 ∷ step.Play 2 ∷ step.Up 2 ∷ step.Cut 2 ∷ step.Down 2 ∷ step.Join 2 ∷ step.Play 1 ∷ step.Up 2 ∷ step.Down 1 ∷ []

events_6 : session_events match 2 steps_6
    ≡ event.Start 1 digest_0 ∷ event.Start 2 digest_0 ∷ event.Play 1 1 digest_1 ∷ event.Play 2 1 digest_1 ∷ event.Play 1 2 digest_5 ∷
    event.Play 2 2 digest_5 ∷ event.Order 2 5 ∷ event.Play 2 3 digest_10 ∷ event.Bend 1 2 digest_8 ∷ event.Play 1 3 digest_9 ∷
    event.Bend 1 3 digest_26 ∷ event.Play 2 4 digest_14 ∷ event.Play 1 4 digest_27 ∷ event.Notice 3 2 ∷ event.Cut 2 ∷ event.Notice 4 1 ∷
    event.Join 2 ∷ event.Play 1 5 digest_28 ∷ event.Load 2 5 digest_28 ∷ event.Play 1 6 digest_29 ∷ event.Play 2 6 digest_29 ∷ event.Cut 2 ∷
    event.Join 2 ∷ []
unfolding digest quick u16_bytes u32_bytes u64_bytes i32_bytes block_words rounds compress hash_after digest_bytes md5
events_6 = refl

left_6 : left match (session match 2 steps_6)
    ≡ record { statuses = In 6 ∷ Waiting 1 ∷ []; released = 6; kept = 0 ∷ 0 ∷ 0 ∷ 0 ∷ 1 ∷ 0 ∷ []; ups = 1 ∷ 0 ∷ []; downs = 0 ∷ 0 ∷ [] }
unfolding digest quick u16_bytes u32_bytes u64_bytes i32_bytes block_words rounds compress hash_after digest_bytes md5
left_6 = refl

-- ---- 66 steps

abbrev steps_7 : List Step
steps_7 =
    step.Play 1 ∷ step.Play 2 ∷ step.Join 2 ∷ step.Play 2 ∷ step.Cut 1 ∷ step.Up 2 ∷ step.Up 2 ∷ step.Down 2 ∷ step.Join 1 ∷ step.Up 1 ∷ step.Up 2 ∷
    step.Up 2 ∷ step.Down 2 ∷ step.Up 2 ∷ step.Down 1 ∷ step.Down 2 ∷ step.Play 2 ∷ step.Down 1 ∷ step.Play 1 ∷ step.Up 2 ∷ step.Play 1 ∷ step.Up 2 ∷
    step.Play 2 ∷ step.Up 1 ∷ step.Up 2 ∷ step.Up 1 ∷ step.Down 2 ∷ step.Up 1 ∷ step.Play 2 ∷ step.Down 1 ∷ step.Up 2 ∷ step.Up 1 ∷ step.Down 1 ∷
    step.Down 2 ∷ step.Up 2 ∷ step.Play 1 ∷ step.Play 2 ∷ step.Up 1 ∷ step.Bend 1 3 (pos 131072) ∷ step.Up 2 ∷ step.Down 2 ∷ step.Play 1 ∷
    step.Up 1 ∷ step.Down 1 ∷ step.Down 2 ∷ step.Bend 1 2 (pos 131072) ∷ step.Order 1 (Attack (3 ∷ 4 ∷ []) 5) ∷ step.Down 2 ∷
    step.Bend 1 4 (pos 131072) ∷ step.Cut 2 ∷ step.Join 2 ∷ step.Up 2 ∷ step.Down 1 ∷ step.Up 1 ∷ step.Down 2 ∷ step.Up 2 ∷ step.Join 1 ∷ step.Up 1 ∷
    step.Cut 2 ∷ step.Join 2 ∷ step.Up 2 ∷ step.Down 1 ∷ step.Up 1 ∷ step.Down 2 ∷ step.Down 2 ∷ step.Cut 1 ∷ []

events_7 : session_events match 2 steps_7
    ≡ event.Start 1 digest_0 ∷ event.Start 2 digest_0 ∷ event.Play 1 1 digest_1 ∷ event.Play 2 1 digest_1 ∷ event.Play 2 2 digest_5 ∷ event.Cut 1 ∷
    event.Join 1 ∷ event.Load 1 2 digest_5 ∷ event.Play 2 3 digest_10 ∷ event.Play 1 3 digest_10 ∷ event.Play 1 4 digest_14 ∷
    event.Play 2 4 digest_14 ∷ event.Play 2 5 digest_30 ∷ event.Play 1 5 digest_30 ∷ event.Play 2 6 digest_31 ∷ event.Bend 1 5 digest_32 ∷
    event.Play 1 6 digest_33 ∷ event.Bend 1 6 digest_34 ∷ event.Cut 2 ∷ event.Join 2 ∷ event.Load 2 6 digest_34 ∷ event.Cut 2 ∷ event.Join 2 ∷
    event.Load 2 6 digest_34 ∷ event.Cut 1 ∷ []
unfolding digest quick u16_bytes u32_bytes u64_bytes i32_bytes block_words rounds compress hash_after digest_bytes md5
events_7 = refl

left_7 : left match (session match 2 steps_7)
    ≡ record { statuses = Out ∷ In 6 ∷ []; released = 6; kept = 0 ∷ 0 ∷ 0 ∷ 0 ∷ 0 ∷ 0 ∷ []; ups = 0 ∷ 0 ∷ []; downs = 0 ∷ 0 ∷ [] }
unfolding digest quick u16_bytes u32_bytes u64_bytes i32_bytes block_words rounds compress hash_after digest_bytes md5
left_7 = refl

-- ---- 73 steps

abbrev steps_8 : List Step
steps_8 =
    step.Bend 2 3 (pos 65536) ∷ step.Join 2 ∷ step.Up 2 ∷ step.Play 1 ∷ step.Up 1 ∷ step.Order 1 (Attack (2 ∷ 5 ∷ []) 4) ∷ step.Play 1 ∷
    step.Order 1 (Attack (2 ∷ 5 ∷ []) 4) ∷ step.Up 1 ∷ step.Up 1 ∷ step.Up 1 ∷ step.Up 1 ∷ step.Down 1 ∷ step.Order 1 (Attack (3 ∷ 4 ∷ []) 5) ∷
    step.Up 1 ∷ step.Up 1 ∷ step.Down 1 ∷ step.Up 1 ∷ step.Down 1 ∷ step.Down 1 ∷ step.Down 2 ∷ step.Order 2 Resign ∷ step.Down 1 ∷ step.Down 2 ∷
    step.Up 2 ∷ step.Down 1 ∷ step.Bend 2 2 (pos 131072) ∷ step.Down 1 ∷ step.Down 2 ∷ step.Play 1 ∷ step.Up 1 ∷ step.Up 1 ∷ step.Up 1 ∷
    step.Play 1 ∷ step.Down 2 ∷ step.Order 2 (Attack (2 ∷ 5 ∷ []) 4) ∷ step.Up 2 ∷ step.Down 1 ∷ step.Order 2 Resign ∷ step.Play 2 ∷
    step.Bend 1 4 (pos 131072) ∷ step.Up 2 ∷ step.Up 1 ∷ step.Up 2 ∷ step.Up 2 ∷ step.Play 2 ∷ step.Down 1 ∷ step.Up 1 ∷ step.Down 1 ∷ step.Join 1 ∷
    step.Down 2 ∷ step.Down 1 ∷ step.Up 2 ∷ step.Down 2 ∷ step.Up 2 ∷ step.Cut 2 ∷ step.Down 1 ∷ step.Play 1 ∷ step.Up 1 ∷ step.Down 1 ∷
    step.Play 1 ∷ step.Up 1 ∷ step.Join 2 ∷ step.Up 2 ∷ step.Up 2 ∷ step.Down 1 ∷ step.Up 1 ∷ step.Down 2 ∷ step.Down 2 ∷ step.Cut 2 ∷ step.Join 2 ∷
    step.Up 2 ∷ step.Order 1 Resign ∷ []

events_8 : session_events match 1 steps_8
    ≡ event.Start 1 digest_0 ∷ event.Join 2 ∷ event.Play 1 1 digest_1 ∷ event.Order 1 4 ∷ event.Play 1 2 digest_5 ∷ event.Order 1 5 ∷
    event.Order 1 5 ∷ event.Load 2 2 digest_5 ∷ event.Order 2 5 ∷ event.Bend 2 2 digest_8 ∷ event.Play 1 3 digest_10 ∷ event.Play 1 4 digest_35 ∷
    event.Order 2 5 ∷ event.Order 2 5 ∷ event.Play 2 3 digest_9 ∷ event.Bend 1 4 digest_36 ∷ event.Notice 3 2 ∷ event.Play 2 4 digest_37 ∷
    event.Notice 4 2 ∷ event.Cut 2 ∷ event.Play 1 5 digest_38 ∷ event.Play 1 6 digest_39 ∷ event.Join 2 ∷ event.Load 2 6 digest_39 ∷ event.Cut 2 ∷
    event.Join 2 ∷ []
unfolding digest quick u16_bytes u32_bytes u64_bytes i32_bytes block_words rounds compress hash_after digest_bytes md5
events_8 = refl

left_8 : left match (session match 1 steps_8)
    ≡ record { statuses = In 6 ∷ Waiting 1 ∷ []; released = 6; kept = 0 ∷ 0 ∷ 0 ∷ 1 ∷ 5 ∷ 0 ∷ []; ups = 0 ∷ 0 ∷ []; downs = 1 ∷ 0 ∷ [] }
unfolding digest quick u16_bytes u32_bytes u64_bytes i32_bytes block_words rounds compress hash_after digest_bytes md5
left_8 = refl

-- ---- 80 steps

abbrev steps_9 : List Step
steps_9 =
    step.Order 1 (Attack (2 ∷ []) 9) ∷ step.Order 1 (Attack (3 ∷ 4 ∷ []) 5) ∷ step.Join 2 ∷ step.Down 2 ∷ step.Bend 1 3 (pos 65536) ∷ step.Up 1 ∷
    step.Up 2 ∷ step.Down 1 ∷ step.Up 1 ∷ step.Play 1 ∷ step.Order 1 (Attack (3 ∷ 4 ∷ []) 5) ∷ step.Down 1 ∷ step.Down 1 ∷ step.Play 1 ∷
    step.Play 1 ∷ step.Up 1 ∷ step.Up 1 ∷ step.Down 1 ∷ step.Up 1 ∷ step.Play 1 ∷ step.Up 1 ∷ step.Down 2 ∷ step.Order 1 (Stop (2 ∷ 5 ∷ [])) ∷
    step.Down 2 ∷ step.Down 1 ∷ step.Up 1 ∷ step.Order 1 (Delete (5 ∷ 3 ∷ [])) ∷ step.Order 1 Resign ∷ step.Down 2 ∷ step.Down 2 ∷
    step.Order 1 (Delete (5 ∷ 3 ∷ [])) ∷ step.Up 1 ∷ step.Up 1 ∷ step.Up 1 ∷ step.Bend 1 3 (pos 131072) ∷ step.Bend 2 2 (pos 65536) ∷ step.Up 1 ∷
    step.Down 1 ∷ step.Order 2 (Attack (3 ∷ 4 ∷ []) 5) ∷ step.Cut 1 ∷ step.Down 2 ∷ step.Up 2 ∷ step.Play 2 ∷ step.Up 2 ∷ step.Up 1 ∷ step.Join 1 ∷
    step.Up 2 ∷ step.Play 2 ∷ step.Up 1 ∷ step.Up 2 ∷ step.Up 2 ∷ step.Order 2 (Attack (2 ∷ []) 9) ∷ step.Down 2 ∷ step.Down 2 ∷ step.Down 2 ∷
    step.Down 2 ∷ step.Play 2 ∷ step.Up 2 ∷ step.Up 2 ∷ step.Up 2 ∷ step.Down 2 ∷ step.Down 2 ∷ step.Up 2 ∷ step.Down 1 ∷ step.Down 2 ∷ step.Play 2 ∷
    step.Down 2 ∷ step.Down 1 ∷ step.Down 1 ∷ step.Up 2 ∷ step.Down 2 ∷ step.Play 2 ∷ step.Up 2 ∷ step.Down 1 ∷ step.Play 1 ∷ step.Up 1 ∷
    step.Cut 1 ∷ step.Join 1 ∷ step.Up 1 ∷ step.Down 2 ∷ []

events_9 : session_events match 1 steps_9
    ≡ event.Start 1 digest_0 ∷ event.Order 1 3 ∷ event.Order 1 3 ∷ event.Join 2 ∷ event.Bend 1 0 digest_40 ∷ event.Play 1 1 digest_16 ∷
    event.Order 1 4 ∷ event.Play 1 2 digest_17 ∷ event.Play 1 3 digest_18 ∷ event.Load 2 1 digest_16 ∷ event.Order 1 6 ∷ event.Order 1 6 ∷
    event.Order 1 6 ∷ event.Order 1 6 ∷ event.Bend 2 1 digest_41 ∷ event.Order 2 4 ∷ event.Cut 1 ∷ event.Play 2 2 digest_42 ∷ event.Notice 2 2 ∷
    event.Join 1 ∷ event.Play 2 3 digest_43 ∷ event.Notice 3 2 ∷ event.Order 2 6 ∷ event.Play 2 4 digest_44 ∷ event.Load 1 4 digest_44 ∷
    event.Play 2 5 digest_45 ∷ event.Play 2 6 digest_46 ∷ event.Play 1 5 digest_45 ∷ event.Cut 1 ∷ event.Join 1 ∷ []
unfolding digest quick u16_bytes u32_bytes u64_bytes i32_bytes block_words rounds compress hash_after digest_bytes md5
events_9 = refl

left_9 : left match (session match 1 steps_9)
    ≡ record { statuses = Waiting 2 ∷ In 6 ∷ []; released = 6; kept = 0 ∷ 0 ∷ 2 ∷ 2 ∷ 0 ∷ 2 ∷ []; ups = 0 ∷ 1 ∷ []; downs = 0 ∷ 0 ∷ [] }
unfolding digest quick u16_bytes u32_bytes u64_bytes i32_bytes block_words rounds compress hash_after digest_bytes md5
left_9 = refl
