mod LawExamples
