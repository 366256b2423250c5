mod LawsFound
